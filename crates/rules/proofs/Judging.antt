-- What a sign that was judged did to the state, on values alone. Serves the pull of the next sign.
use Rattle.std.proofs.Common.{◌≡◌, ℕ, zero, suc, ◌+◌, ◌≤◌, Bool, true, false, cond, List, Some, None, Ok, Err, Option, Result, sym, refl, ap, ◌∙◌, arith, rules}
use Rattle.signs.specs.Signs.{Mark}
use Rattle.sheet.specs.declared.named.Named.{Named}
use Rattle.grammar.specs.Reading.{Ahead, Machine, Pulled, end_fits, faulty, fits, judge, judged, opens, over, pull, sign, signs_left, take}
use Rattle.grammar.specs.declared.fault.RuleFault.{RuleFault}
use Rattle.grammar.specs.declared.fault.RuleFault.TheVariants.{Unfit}
use Rattle.grammar.proofs.Judging.{was_taken}
use Rattle.grammar.proofs.Results.{err_not_ok, ok_same, through_test}
use Rattle.rules.specs.Machines.{end_outcome, outcome}
use Rattle.rules.specs.Readers.{Moved, Standing, bracket_in, close_in, count_in, level_in, named_by, sign_in}
use Rattle.rules.specs.declared.machine.Machine as code

-- what a sign that was taken counts
record Counts (m : Mark) (a b : Machine) : Type 0 where
  signs : b.signs ≡ a.signs + count_in (Some m)
  brackets : b.brackets + close_in (Some m) ≤ a.brackets + bracket_in (Some m)

take_counts : (means : List ℕ → Option Named) (m : Mark) (a b : Machine) → fits a.wants a.brackets m ≡ true → take means m a ≡ Ok b → Counts m a b
take_counts means m a b fit e = search rules

level_left : (o : Bool) (levels : ℕ) → (o ≡ true → levels ≡ 0 → ⊥) → cond o 1 0 ≤ levels
level_left true zero some = absurd (some refl refl)
level_left true (suc levels) some = omega arith
level_left false levels some = omega arith

-- what a pull did
record Pulls (levels : ℕ) (ahead : Ahead) (a : Machine) (p : Pulled) : Type 0 where
  left : signs_left p.ahead + sign_in p.mark ≤ signs_left ahead
  signs : p.machine.signs ≡ a.signs + count_in p.mark
  brackets : p.machine.brackets + close_in p.mark ≤ a.brackets + bracket_in p.mark
  level : level_in p.mark ≤ levels

judged_pulls : (means : List ℕ → Option Named) (levels : ℕ) (m : Mark) (ahead : Ahead) (a : Machine) (p : Pulled) (r : Result Machine RuleFault) → judge means levels m a ≡ r → judged m ahead r ≡ Ok p
    → Pulls levels (sign m ahead) a p
judged_pulls means levels m ahead a p (Err fault) j e = absurd (err_not_ok e)
judged_pulls means levels m ahead a p (Ok b) j e =
    let t = was_taken means levels m a b j in
    let counts = take_counts means m a b t.fitting t.taken in
    rw (← ok_same e) (record { left = omega arith; signs = counts.signs; brackets = counts.brackets; level = level_left (opens m) levels t.level })

pulls : (means : List ℕ → Option Named) (levels : ℕ) (ahead : Ahead) (a : Machine) (p : Pulled) → pull means levels ahead a ≡ Ok p → Pulls levels ahead a p
pulls means levels (sign m ahead) a p e = judged_pulls means levels m ahead a p (judge means levels m a) refl e
pulls means levels (over place) a p e =
    rw (← ok_same (through_test (end_fits a) (Unfit place) (Ok (record { mark = None; ahead = over place; machine = a })) p e).1) (record { left = omega arith; signs = omega arith; brackets = omega arith; level = omega arith })
pulls means levels (faulty fault) a p e = absurd (err_not_ok e)

pub pull_moves : (means : List ℕ → Option Named) (levels : ℕ) (mark : Option Mark) (a b : Standing) → Ok (record { mark = mark; ahead = b.ahead; machine = b.machine }) ≡ pull means levels a.ahead a.machine → Moved levels mark a b
pull_moves means levels mark a b e =
    let p = pulls means levels a.ahead a.machine (record { mark = mark; ahead = b.ahead; machine = b.machine }) (sym e) in
    record { left = p.left; signs = p.signs; brackets = p.brackets; level = p.level }

-- of what names name, a sign is judged by what it names itself
pub judge_by_name : (means : List ℕ → Option Named) (levels : ℕ) (m : Mark) (a : Machine) → judge (λ _. named_by means m) levels m a ≡ judge means levels m a
judge_by_name means levels m a = search rules

-- a sign that the code judged by what it names
pub sign_judged : (means : List ℕ → Option Named) (levels : ℕ) (m : Mark) (a : Machine) (o : Option Named) (r : Result (Unit {0}) RuleFault) (behind : code.Machine)
    → o ≡ named_by means m → outcome r behind ≡ judge (λ _. o) levels m a → judge means levels m a ≡ outcome r behind
sign_judged means levels m a o r behind n j = sym (judge_by_name means levels m a) ∙ ap (λ o. judge (λ _. o) levels m a) (sym n) ∙ sym j

-- the end, where it cannot come
pub end_refused : (place : ℕ) (a : Machine) (means : List ℕ → Option Named) (levels : ℕ) (fault : RuleFault) → end_outcome place a ≡ Err fault → pull means levels (over place) a ≡ Err fault
end_refused place a means levels fault e = go (end_fits a) (record { mark = None; ahead = over place; machine = a }) e
  where
    go : (b : Bool) (p : Pulled) → cond {A = Result (Unit {0}) RuleFault} b (Ok tt) (Err (Unfit place)) ≡ Err fault → cond {A = Result Pulled RuleFault} b (Ok p) (Err (Unfit place)) ≡ Err fault
    go true p e = absurd (err_not_ok (sym e))
    go false p e = cc
