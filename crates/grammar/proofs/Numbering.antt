-- The places of what is derived are numbered on from the actions before it, so those of a rule from 1 on.
use Rattle.std.proofs.Common.{◌≡◌, ℕ, suc, ◌+◌, ◌≤◌, List, [], ◌++◌, map, length, refl, subst, arith, length-append}
use lib.ListN.{length-map}
use Rattle.signs.specs.Signs.{Mark}
use Rattle.kat.specs.Places.{Place, and_then, places_in}
use Rattle.kat.specs.Terms.{Term, star}
use Rattle.kat.proofs.Numbers.{CountedFrom, counted_append, counted_then, from_counted}
use Rattle.grammar.specs.Derivations.{Choice, one_chain, more_chains, Chain, one_step, more_steps, Step, unit, repeated}
use Rattle.grammar.specs.Derivations.{Unit', a_test, an_action, the_skip, the_stop, negated, in_brackets}
use Rattle.grammar.specs.Theorems.{Meaning, RuleIsNumbered}
use Rattle.grammar.proofs.Tested.{test_places, told_test}

-- Behind so many actions the places are numbered on, and with them there are so many.
abbrev pub NumberedOn : ℕ → List Place → ℕ → Type 0
NumberedOn before places after = CountedFrom (suc before) places × (after ≡ before + length places)

-- No places are no actions more.
none_numbered : (before : ℕ) → NumberedOn before [] before
none_numbered before = (tt, omega arith)

-- Places behind places.
more_numbered : (before between after : ℕ) (xs ys : List Place)
    → NumberedOn before xs between → NumberedOn between ys after → NumberedOn before (xs ++ ys) after
more_numbered before between after xs ys a b =
    let on = subst (λ n. CountedFrom (suc n) ys) a.1 b.0 in
    (counted_append (suc before) xs ys a.0 (subst (λ n. CountedFrom n ys) (omega arith) on), omega (arith, a.1, b.1, length-append xs ys))

-- Places with more to do behind them.
then_numbered : (f : Term) (before after : ℕ) (places : List Place)
    → NumberedOn before places after → NumberedOn before (map (and_then f) places) after
then_numbered f before after places a = (counted_then f (suc before) places a.0, omega (arith, a.1, length-map places (and_then f)))

-- What is derived is numbered on: by induction on the derivation.
mutual
  pub choice_numbered : {means : Meaning} {depth before after : ℕ} {signs : List Mark} {e : Term}
      → Choice means depth before signs e after → NumberedOn before (places_in e) after
  choice_numbered (one_chain c) = chain_numbered c
  choice_numbered (more_chains {depth} {before} {between} {after} {xs} {ys} {e} {f} place c d) =
      more_numbered before between after (places_in e) (places_in f) (chain_numbered c) (choice_numbered d)

  pub chain_numbered : {means : Meaning} {depth before after : ℕ} {signs : List Mark} {e : Term}
      → Chain means depth before signs e after → NumberedOn before (places_in e) after
  chain_numbered (one_step s) = step_numbered s
  chain_numbered (more_steps {depth} {before} {between} {after} {xs} {ys} {e} {f} place s c) =
      more_numbered before between after (map (and_then f) (places_in e)) (places_in f)
      (then_numbered f before between (places_in e) (step_numbered s)) (chain_numbered c)

  pub step_numbered : {means : Meaning} {depth before after : ℕ} {signs : List Mark} {e : Term}
      → Step means depth before signs e after → NumberedOn before (places_in e) after
  step_numbered (unit u) = unit_numbered u
  step_numbered (repeated {depth} {before} {after} {signs} {e} place s) = then_numbered (star e) before after (places_in e) (step_numbered s)

  unit_numbered : {means : Meaning} {depth before after : ℕ} {signs : List Mark} {e : Term}
      → Unit' means depth before signs e after → NumberedOn before (places_in e) after
  unit_numbered (a_test {depth} {before} name place t e) = none_numbered before
  unit_numbered (an_action name place a e) = ((refl, tt), omega arith)
  unit_numbered (the_skip {depth} {before} place) = none_numbered before
  unit_numbered (the_stop {depth} {before} place) = none_numbered before
  unit_numbered (negated {depth} {before} {after} {signs} {e} place u t) =
      subst (λ places. NumberedOn before places after) (test_places (told_test e t)) (unit_numbered u)
  unit_numbered (in_brackets p q c) = choice_numbered c

-- So the actions only grow.
pub grows : (before after : ℕ) (places : List Place) → NumberedOn before places after → before ≤ after
grows before after places n = omega (arith, n.1)

-- A rule is a choice behind no actions.
pub rule_is_numbered : RuleIsNumbered
rule_is_numbered means signs e rule =
    let on = choice_numbered rule.derived in
    record { in_text_order = from_counted 1 (places_in e) on.0; few = omega (arith, on.1, rule.few_actions) }
