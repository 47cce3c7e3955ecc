-- The turns of the loops that follow a pair: situation by situation, and within one action by action.
use Rattle.std.proofs.Common.{◌≡◌, ℕ, suc, ◌+◌, ◌<◌, ◌≤◌, List, [], ◌∷◌, ◌++◌, length, sym, refl, ap, add-one, append_assoc, arith}
use Rattle.runs.specs.Flows.{FlowMeaning}
use Rattle.runs.specs.Pairs.{Pair, next_pair}
use Rattle.runs.specs.Runs.{Move}
use Rattle.runs.specs.Walks.{Listed, followed, moves_below, moves_in, put}
use Rattle.runs.proofs.Following.{row_grows, row_next}
use Rattle.walk.specs.Records.{move_of}

-- The moves of the situations below one, and of that one as far as an action.
abbrev pub moves_as_far : ℕ → ℕ → ℕ → List Move
moves_as_far k s a = moves_below s k ++ moves_in s a

module _ (f g : FlowMeaning) (list : List Listed) (from : ℕ) (p : Pair) where
  abbrev along : List Move → List Listed
  along moves = followed f g list from p moves

  next : (s a : ℕ) → moves_as_far f.actions s (suc a) ≡ moves_as_far f.actions s a ++ (move_of s a ∷ [])
  next s a = sym (append_assoc (moves_below s f.actions) (moves_in s a) (move_of s a ∷ []))

  -- An action more puts down what it leads to,
  pub puts : (s a : ℕ) → along (moves_as_far f.actions s (a + 1)) ≡ put (along (moves_as_far f.actions s a)) (record { pair = next_pair f g p (move_of s a); from = from; move = move_of s a })
  puts s a = row_next f g from p (moves_as_far f.actions s) (λ b. move_of s b ∷ []) (next s) list a

  -- and with all actions the situation has been followed.
  ends : (s : ℕ) → along (moves_as_far f.actions s f.actions) ≡ along (moves_below (s + 1) f.actions)
  ends s = ap (λ n. along (moves_below n f.actions)) (sym (add-one s))

  -- What has been listed on the way is no longer than what is at the end.
  pub no_longer : (s a : ℕ) → s < f.situations → a < f.actions → length (along (moves_as_far f.actions s (a + 1))) ≤ length (along (moves_below f.situations f.actions))
  no_longer s a some few =
      omega (
        arith,
        row_grows f g from p (moves_as_far f.actions s) (λ b. move_of s b ∷ []) (next s) list (a + 1) f.actions (omega arith),
        ap length (ends s),
        row_grows f g from p (λ n. moves_below n f.actions) (λ n. moves_in n f.actions) (λ n. refl) list (s + 1) f.situations (omega arith),
      )
