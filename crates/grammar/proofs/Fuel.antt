-- Enough fuel: each part that was built leaves fewer signs ahead, so that every later call has enough fuel too.
use Rattle.std.proofs.Common.{◌≡◌, ℕ, zero, suc, ◌+◌, ◌-◌, ◌<◌, ◌≤◌, Bool, true, false, cond, ◌⊎◌, List, [], ◌∷◌, ◌++◌, length, Some, None, Ok, Err, Option, Result, refl, ap, ◌∙◌, subst, inl, inr, arith, rules}
use Rattle.signs.specs.Signs.{Mark, repeating, following}
use Rattle.kat.specs.Terms.{Term, chain, choice}
use Rattle.grammar.specs.Derivations.{Chain, Step, Unit', more_steps, one_step, repeated, unit}
use Rattle.grammar.specs.Reading.{Ahead, sign, over, faulty, Machine, Pulled, Grown, judge, judged, end_fits, pull, bind_pulled, bind_built, bind_grown, is_following, is_choosing}
use Rattle.grammar.specs.Reading.{unit_at, joined_with, or_more, choice_from, chain_from, step_from, unit_from, signs_left}
use Rattle.grammar.specs.Theorems.{Meaning, Deriving, FuelIsEnough, PartGrown, SameByFuel, past, pulled_behind}
use Rattle.grammar.specs.declared.fault.RuleFault.{RuleFault}
use Rattle.grammar.specs.declared.fault.RuleFault.TheVariants.{Unfit}
use Rattle.grammar.proofs.Results.{err_not_ok, ok_same, through_test}
use Rattle.grammar.proofs.Signs.{infront_left}
use Rattle.grammar.proofs.Sound.{builders_sound}
use Rattle.grammar.proofs.States.{Parts, Units, stars_behind, unit_behind}

some_joined : (xs : List Mark) (y : Mark) (ys : List Mark) → 0 < length (xs ++ y ∷ ys)
some_joined [] y ys = omega arith
some_joined (x ∷ xs) y ys = omega arith

-- Nothing is derived from no signs.
unit_some : {means : Meaning} {depth before after : ℕ} {signs : List Mark} {e : Term} → Unit' means depth before signs e after → 0 < length signs
unit_some u = search rules

step_some : {means : Meaning} {depth before after : ℕ} {signs : List Mark} {e : Term} → Step means depth before signs e after → 0 < length signs
step_some (unit u) = unit_some u
step_some (repeated {signs = xs} place s) = some_joined xs (repeating place) []

chain_some : {means : Meaning} {depth before after : ℕ} {signs : List Mark} {e : Term} → Chain means depth before signs e after → 0 < length signs
chain_some (one_step s) = step_some s
chain_some (more_steps {xs = xs} {ys = ys} place s c) = some_joined xs (following place) ys

-- To pull a sign leaves no more of them ahead.
pulled_left : (means : Meaning) (levels : ℕ) (rest : Ahead) (m : Machine) (p : Pulled)
    → pull means levels rest m ≡ Ok p → signs_left p.ahead ≤ signs_left rest
pulled_left means levels (sign x ahead) m p e = go (judge means levels x m) e
  where
    go : (r : Result Machine RuleFault) → judged x ahead r ≡ Ok p → signs_left p.ahead ≤ suc (signs_left ahead)
    go (Ok m') f = subst (λ (q : Pulled). signs_left q.ahead ≤ suc (signs_left ahead)) (ok_same f) (omega arith)
    go (Err fault) f = absurd (err_not_ok f)
pulled_left means levels (over place) m p e =
    subst (λ (q : Pulled). signs_left q.ahead ≤ 0) (ok_same (through_test (end_fits m) (Unfit place) _ p e).1) (omega arith)
pulled_left means levels (faulty fault) m p e = absurd (err_not_ok e)

-- Behind a part fewer signs lie ahead than in front of it.
part_left : (Derives : Deriving) (goes_on : Option Mark → Bool) (means : Meaning) (levels : ℕ) (ahead : Ahead) (m : Machine) (g : Grown)
    (r : PartGrown Derives goes_on means levels ahead m g) → 0 < length r.read → signs_left g.ahead < signs_left ahead
part_left Derives goes_on means levels ahead m g r front =
    let whole : signs_left ahead ≡ length r.read + signs_left r.rest = ap signs_left r.consumed ∙ infront_left r.read r.rest in
    let behind = pulled_left means levels r.rest (past m r.read r.after) (pulled_behind g) r.next_judged in
    omega (arith, whole, behind)

-- Two builders of parts that agree, and agree on what is joined behind, agree on the whole.
join_same : (joins : Option Mark → Bool) (join : Term → Term → Term) (r r' : Result Grown RuleFault) (more more' : Parts)
    → r ≡ r' → ((g : Grown) → r' ≡ Ok g → more g.ahead g.machine ≡ more' g.ahead g.machine)
    → bind_grown r (or_more joins join more) ≡ bind_grown r' (or_more joins join more')
join_same joins join r (Ok g) more more' e h =
    ap (λ v. bind_grown v (or_more joins join more)) e ∙ ap (λ v. cond (joins g.next) (bind_grown v (joined_with join g.term)) (Ok g)) (h g refl)
join_same joins join r (Err fault) more more' e h = ap (λ v. bind_grown v (or_more joins join more)) e

-- Units agree if what stands under a `!` or in brackets does.
module _ (means : Meaning) (inner inner' : Units) (whole whole' : Parts) where
  abbrev Agree : Result Pulled RuleFault → Type 0
  Agree r = bind_pulled r (unit_behind means inner whole) ≡ bind_pulled r (unit_behind means inner' whole')

  unit_same_at : (x : Mark) (ahead : Ahead) (m : Machine) → inner ahead m ≡ inner' ahead m → whole ahead m ≡ whole' ahead m
      → unit_at means inner whole (Some x) ahead m ≡ unit_at means inner' whole' (Some x) ahead m
  unit_same_at x ahead m i w = search rules

  unit_same : (levels : ℕ) (ahead : Ahead) (m : Machine)
      → ((rest : Ahead) (m : Machine) → signs_left rest < signs_left ahead → (inner rest m ≡ inner' rest m) × (whole rest m ≡ whole' rest m)) → Agree (pull means levels ahead m)
  unit_same levels (sign x ahead) m h = go (judge means levels x m)
    where
      go : (r : Result Machine RuleFault) → Agree (judged x ahead r)
      go (Ok m') = let both = h ahead m' (omega arith) in unit_same_at x ahead m' both.0 both.1
      go (Err fault) = refl
  unit_same levels (over place) m h = go (end_fits m)
    where
      go : (t : Bool) → Agree (cond t (Ok (record { mark = None; ahead = over place; machine = m })) (Err (Unfit place)))
      go true = refl
      go false = refl
  unit_same levels (faulty fault) m h = refl

none_below : (f g : ℕ) (means : Meaning) (levels : ℕ) (ahead : Ahead) (m : Machine) → (f ≡ 0) ⊎ (g ≡ 0) → SameByFuel f g means levels ahead m
none_below f g means levels ahead m z =
    record { choices = λ h k. absurd (omega arith); chains = λ h k. absurd (omega arith); steps = λ h k. absurd (omega arith); units = λ h k. absurd (omega arith) }

pub fuel_is_enough : FuelIsEnough
fuel_is_enough zero g means levels ahead m = none_below zero g means levels ahead m (inl refl)
fuel_is_enough (suc f) zero means levels ahead m = none_below (suc f) zero means levels ahead m (inr refl)
fuel_is_enough (suc f) (suc g) means levels ahead m =
    let here = fuel_is_enough f g means levels ahead m in
    record {
      choices = λ h k.
          join_same is_choosing choice (chain_from f means levels ahead m) (chain_from g means levels ahead m) (choice_from f means levels) (choice_from g means levels)
          (here.chains (omega arith) (omega arith))
          (λ c e.
          let r = (builders_sound g means levels).chains ahead m c e in
          let left = part_left (Chain means levels) _ means levels ahead m c r (chain_some r.derived) in
          (fuel_is_enough f g means levels c.ahead c.machine).choices (omega (arith, left)) (omega (arith, left)));
      chains = λ h k.
          join_same is_following chain (step_from f means levels ahead m) (step_from g means levels ahead m) (chain_from f means levels) (chain_from g means levels)
          (here.steps (omega arith) (omega arith))
          (λ c e.
          let r = (builders_sound g means levels).steps ahead m c e in
          let left = part_left (Step means levels) _ means levels ahead m c r (step_some r.derived) in
          (fuel_is_enough f g means levels c.ahead c.machine).chains (omega (arith, left)) (omega (arith, left)));
      steps = λ h k. ap (λ v. bind_built v (stars_behind means levels)) (here.units (omega arith) (omega arith));
      units = λ h k.
          unit_same means (unit_from f means (levels - 1)) (unit_from g means (levels - 1)) (choice_from f means (levels - 1)) (choice_from g means (levels - 1)) levels ahead m
          (λ rest n lt.
          let under = fuel_is_enough f g means (levels - 1) rest n in
          (under.units (omega arith) (omega arith), under.choices (omega arith) (omega arith)));
    }
