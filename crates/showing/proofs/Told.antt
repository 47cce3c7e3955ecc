-- The tests of a situation and the turns of a run, put one by one. Serves the loops of put_in_words and put_turns.
use Rattle.std.proofs.Common.{◌≡◌, ℕ, suc, ◌+◌, ◌<◌, Bool, true, false, cond, not, List, [], ◌++◌, length, get_or, drop, codes, sym, ap, ◌∙◌, add-one}
use Rattle.std.proofs.lemmas.List.{at_drop_more}
use Rattle.texts.proofs.Ahead.{Ahead, nothing_put, piece_put}
use Rattle.texts.proofs.Behind.{before}
use Rattle.texts.specs.Adds.{Adds}
use Rattle.sheet.specs.Laid.{LaidOut}
use Rattle.showing.specs.Told.{action_text, holding, situation_text, test_text, turns}

module _ (whole was : List ℕ) (holds : ℕ → Bool) (names : List (List ℕ)) (t : ℕ) (first : Bool) where
  -- What is ahead at test t, by whether it holds.
  at_test : (b : Bool) → t < length names → holds t ≡ b
      → holding holds first t (drop t names)
      ≡ cond b (test_text first (get_or names t []) ++ holding holds false (t + 1) (drop (t + 1) names)) (holding holds first (t + 1) (drop (t + 1) names))
  at_test b h is =
      at_drop_more (holding holds first t) names t [] h
      ∙ ap (λ b. cond b (test_text first (get_or names t []) ++ holding holds false (suc t) (drop (t + 1) names)) (holding holds first (suc t) (drop (t + 1) names))) is
      ∙ ap (λ k. cond b (test_text first (get_or names t []) ++ holding holds false k (drop (t + 1) names)) (holding holds first k (drop (t + 1) names))) (sym (add-one t))

  -- A test that holds is put by its name, and what follows is not the first.
  pub test_put : (name now' next : List ℕ) → t < length names → holds t ≡ true → name ≡ get_or names t []
      → Ahead whole was (holding holds first t (drop t names)) now' → Adds (test_text first name) now' next
      → Ahead whole was (holding holds false (t + 1) (drop (t + 1) names)) next
  test_put name now' next h is named ahead put =
      let more = holding holds false (t + 1) (drop (t + 1) names) in
      piece_put whole was _ (test_text first name) more now' next ahead (at_test true h is ∙ ap (λ name. test_text first name ++ more) (sym named)) put

  -- Of a test that does not hold nothing is put.
  pub test_passed : (now' : List ℕ) → t < length names → holds t ≡ false
      → Ahead whole was (holding holds first t (drop t names)) now' → Ahead whole was (holding holds first (t + 1) (drop (t + 1) names)) now'
  test_passed now' h is ahead = nothing_put whole was _ _ now' ahead (at_test false h is)

module _ (whole was : List ℕ) (laid : LaidOut) (words : Bool) (run : List ℕ) (i : ℕ) (situation : Bool) where
  -- A blank is put, and then a situation or an action.
  pub turn_put : (b : Bool) (text now' mid next : List ℕ) → i < length run → situation ≡ b
      → text ≡ cond b (situation_text laid words (get_or run i 0)) (action_text laid (get_or run i 0))
      → Ahead whole was (turns laid words situation (drop i run)) now' → Adds (codes " ") now' mid → Adds text mid next
      → Ahead whole was (turns laid words (not situation) (drop (i + 1) run)) next
  turn_put b text now' mid next h is told ahead blank put =
      let more = turns laid words (not situation) (drop (i + 1) run) in
      let wanted = told ∙ ap (λ b. cond b (situation_text laid words (get_or run i 0)) (action_text laid (get_or run i 0))) (sym is) in
      piece_put whole was _ (codes " " ++ text) more now' next ahead
      (at_drop_more (turns laid words situation) run i 0 h ∙ ap (λ text. codes " " ++ (text ++ more)) (sym wanted))
      (before blank put)
