-- Every rule is granted, and no signs derive two terms.
use Rattle.std.proofs.Common.{◌≡◌, ℕ, ◌+◌, ◌-◌, ◌*◌, ◌≤◌, ◌&&◌, List, [], ◌∷◌, None, Ok, sym, refl, ap, ◌∙◌, subst, ap₂, arith}
use Rattle.signs.specs.Signs.{Mark, named}
use Rattle.kat.specs.Terms.{Term, act, chain, choice, is_test, not, skip, star, stop, test}
use Rattle.grammar.specs.Derivations.{Choice, one_chain, more_chains, Chain, one_step, more_steps, Step, unit, repeated}
use Rattle.grammar.specs.Derivations.{Unit', a_test, an_action, the_skip, the_stop, negated, in_brackets}
use Rattle.grammar.specs.Reading.{Grown, Machine, Pulled, bind_grown, choice_from, grown, over, signs_left, term_of}
use Rattle.grammar.specs.Theorems.{Meaning, OneTerm, RuleIsGranted, ahead_of, past}
use Rattle.grammar.proofs.Complete.{Room, choice_read}
use Rattle.grammar.proofs.Results.{ok_same}
use Rattle.grammar.proofs.States.{ready}

pub rule_is_granted : RuleIsGranted
rule_is_granted means signs place e r =
    let few = r.few_actions in
    let short = r.few_signs in
    let room : Room 32 32 0 r.actions 0 signs = record { level = omega arith; action = λ n x y z. omega (arith, few); plain = λ n x y z. omega (arith, short) } in
    let end : Pulled = record { mark = None; ahead = over place; machine = past (ready 0 0 0) signs r.actions } in
    ap (λ v. bind_grown v term_of) (choice_read r.derived (signs_left (ahead_of signs place) * 4 + 4) 32 (over place) 0 0 end room (omega arith) refl refl)

-- A term with the places of its actions so many later, and back.
abbrev later : ℕ → Term → Term
later n (test t) = test t
later n (act a p) = act a (p + n)
later n skip = skip
later n stop = stop
later n (not e) = not (later n e)
later n (choice e f) = choice (later n e) (later n f)
later n (chain e f) = chain (later n e) (later n f)
later n (star e) = star (later n e)

abbrev earlier : ℕ → Term → Term
earlier n (test t) = test t
earlier n (act a p) = act a (p - n)
earlier n skip = skip
earlier n stop = stop
earlier n (not e) = not (earlier n e)
earlier n (choice e f) = choice (earlier n e) (earlier n f)
earlier n (chain e f) = chain (earlier n e) (earlier n f)
earlier n (star e) = star (earlier n e)

there_and_back : (n : ℕ) (e : Term) → earlier n (later n e) ≡ e
there_and_back n (test t) = refl
there_and_back n (act a p) = ap (act a) (omega arith)
there_and_back n skip = refl
there_and_back n stop = refl
there_and_back n (not e) = ap not (there_and_back n e)
there_and_back n (choice e f) = ap₂ choice (there_and_back n e) (there_and_back n f)
there_and_back n (chain e f) = ap₂ chain (there_and_back n e) (there_and_back n f)
there_and_back n (star e) = ap star (there_and_back n e)

later_test : (n : ℕ) (e : Term) → is_test (later n e) ≡ is_test e
later_test n (test t) = refl
later_test n (act a p) = refl
later_test n skip = refl
later_test n stop = refl
later_test n (not e) = later_test n e
later_test n (choice e f) = ap₂ ◌&&◌ (later_test n e) (later_test n f)
later_test n (chain e f) = ap₂ ◌&&◌ (later_test n e) (later_test n f)
later_test n (star e) = refl

-- What is derived behind some actions is derived behind more, with its places so many later.
module _ (n : ℕ) where
  mutual
    choice_later : {means : Meaning} {depth before after : ℕ} {signs : List Mark} {e : Term}
        → Choice means depth before signs e after → Choice means depth (before + n) signs (later n e) (after + n)
    choice_later (one_chain c) = one_chain (chain_later c)
    choice_later (more_chains place c d) = more_chains place (chain_later c) (choice_later d)

    chain_later : {means : Meaning} {depth before after : ℕ} {signs : List Mark} {e : Term}
        → Chain means depth before signs e after → Chain means depth (before + n) signs (later n e) (after + n)
    chain_later (one_step s) = one_step (step_later s)
    chain_later (more_steps place s c) = more_steps place (step_later s) (chain_later c)

    step_later : {means : Meaning} {depth before after : ℕ} {signs : List Mark} {e : Term}
        → Step means depth before signs e after → Step means depth (before + n) signs (later n e) (after + n)
    step_later (unit u) = unit (unit_later u)
    step_later (repeated place s) = repeated place (step_later s)

    unit_later : {means : Meaning} {depth before after : ℕ} {signs : List Mark} {e : Term}
        → Unit' means depth before signs e after → Unit' means depth (before + n) signs (later n e) (after + n)
    unit_later (a_test name place t e) = a_test name place t e
    unit_later {means} (an_action {depth} {before} name place a e) =
        subst (λ k. Unit' means depth (before + n) (named name place ∷ []) (act a k) k) (omega arith) (an_action name place a e)
    unit_later (the_skip place) = the_skip place
    unit_later (the_stop place) = the_stop place
    unit_later (negated {e = e} place u t) = negated place (unit_later u) (later_test n e ∙ t)
    unit_later (in_brackets p q c) = in_brackets p q (choice_later c)

-- Behind 64 actions and 256 signs no count of the reader meets its limit again.
abbrev beyond : ℕ → Machine
beyond actions = ready 0 256 (actions + 64)

read_beyond : (means : Meaning) (depth levels before after : ℕ) (signs : List Mark) (e : Term) → depth ≤ levels → Choice means depth before signs e after
    → choice_from (signs_left (ahead_of signs 0) * 4 + 4) means levels (ahead_of signs 0) (beyond before)
    ≡ Ok (grown (later 64 e) None (over 0) (past (beyond before) signs (after + 64)))
read_beyond means depth levels before after signs e deep d =
    let room : Room depth levels (before + 64) (after + 64) 256 signs = record { level = deep; action = λ n x y z. omega arith; plain = λ n x y z. omega arith } in
    let end : Pulled = record { mark = None; ahead = over 0; machine = past (beyond before) signs (after + 64) } in
    choice_read (choice_later 64 d) (signs_left (ahead_of signs 0) * 4 + 4) levels (over 0) 0 256 end room (omega arith) refl refl

pub one_term : OneTerm
one_term means depth depth' before after after' signs e e' d d' =
    let first = read_beyond means depth (depth + depth') before after signs e (omega arith) d in
    let second = read_beyond means depth' (depth + depth') before after' signs e' (omega arith) d' in
    let same = ok_same (sym first ∙ second) in
    let terms = ap (λ (g : Grown). earlier 64 g.term) same in
    let counts = ap (λ (g : Grown). g.machine.actions) same in
    (sym (there_and_back 64 e) ∙ (terms ∙ there_and_back 64 e'), omega (arith, counts))
