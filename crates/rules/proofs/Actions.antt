-- The actions that a reading counts are those of the term that it builds.
use Rattle.std.proofs.Common.{◌≡◌, ℕ, ◌+◌, true, List, Ok, Err, Result, sym, refl, ap, ◌∙◌, arith, rules}
use Rattle.signs.specs.Signs.{Mark}
use Rattle.grammar.specs.Derivations.{Choice, one_chain, more_chains, Chain, one_step, more_steps, Step, unit, repeated}
use Rattle.grammar.specs.Derivations.{Unit', a_test, an_action, the_skip, the_stop, negated, in_brackets}
use Rattle.grammar.specs.Reading.{Ahead, Grown, Machine, Pulled, choice_from, end_fits, faulty, fits, following', judge, judged, over, pull, sign, take}
use Rattle.grammar.specs.Theorems.{Meaning, past, pulled_behind}
use Rattle.kat.specs.Terms.{Term}
use Rattle.grammar.specs.declared.fault.RuleFault.{RuleFault}
use Rattle.grammar.specs.declared.fault.RuleFault.TheVariants.{Unfit}
use Rattle.grammar.proofs.Judging.{was_taken}
use Rattle.grammar.proofs.Results.{err_not_ok, ok_same, through_test}
use Rattle.grammar.proofs.Sound.{builders_sound}
use Rattle.rules.specs.Rules.{actions_in}

-- what is derived counts the actions of its term: by induction on the derivation
mutual
  choice_counts : {means : Meaning} {depth before after : ℕ} {signs : List Mark} {e : Term} → Choice means depth before signs e after → after ≡ before + actions_in e
  choice_counts (one_chain c) = chain_counts c
  choice_counts (more_chains place c d) = omega (arith, chain_counts c, choice_counts d)

  chain_counts : {means : Meaning} {depth before after : ℕ} {signs : List Mark} {e : Term} → Chain means depth before signs e after → after ≡ before + actions_in e
  chain_counts (one_step s) = step_counts s
  chain_counts (more_steps place s c) = omega (arith, step_counts s, chain_counts c)

  step_counts : {means : Meaning} {depth before after : ℕ} {signs : List Mark} {e : Term} → Step means depth before signs e after → after ≡ before + actions_in e
  step_counts (unit u) = unit_counts u
  step_counts (repeated place s) = step_counts s

  unit_counts : {means : Meaning} {depth before after : ℕ} {signs : List Mark} {e : Term} → Unit' means depth before signs e after → after ≡ before + actions_in e
  unit_counts (a_test name place t e) = omega arith
  unit_counts (an_action name place a e) = omega arith
  unit_counts (the_skip place) = omega arith
  unit_counts (the_stop place) = omega arith
  unit_counts (negated place u t) = unit_counts u
  unit_counts (in_brackets p q c) = choice_counts c

-- behind a unit no name comes, so that a sign that is taken there counts no action
taken_behind : (means : Meaning) (x : Mark) (a b : Machine) → a.wants ≡ following' → fits a.wants a.brackets x ≡ true → take means x a ≡ Ok b → b.actions ≡ a.actions
taken_behind means x a b w fit e = search rules

pulled_after : (means : Meaning) (levels : ℕ) (rest : Ahead) (a : Machine) (p : Pulled) → a.wants ≡ following' → pull means levels rest a ≡ Ok p → p.machine.actions ≡ a.actions
pulled_after means levels (sign x rest) a p w e = go (judge means levels x a) refl e
  where
    go : (r : Result Machine RuleFault) → judge means levels x a ≡ r → judged x rest r ≡ Ok p → p.machine.actions ≡ a.actions
    go (Ok b) j f =
        let t = was_taken means levels x a b j in
        ap (λ p. p.machine.actions) (sym (ok_same f)) ∙ taken_behind means x a b w t.fitting t.taken
    go (Err fault) j f = absurd (err_not_ok f)
pulled_after means levels (over place) a p w e = ap (λ p. p.machine.actions) (sym (ok_same (through_test (end_fits a) (Unfit place) _ p e).1))
pulled_after means levels (faulty fault) a p w e = absurd (err_not_ok e)

pub choice_acts : (means : Meaning) (fuel levels : ℕ) (ahead : Ahead) (m : Machine) (g : Grown) → choice_from fuel means levels ahead m ≡ Ok g → g.machine.actions ≡ m.actions + actions_in g.term
choice_acts means fuel levels ahead m g e =
    let r = (builders_sound fuel means levels).choices ahead m g e in
    pulled_after means levels r.rest (past m r.read r.after) (pulled_behind g) refl r.next_judged ∙ choice_counts r.derived
