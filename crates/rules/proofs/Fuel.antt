-- The four builders where there is fuel, one step each.
use Rattle.std.proofs.Common.{◌≡◌, ℕ, suc, ◌+◌, ◌*◌, ◌≤◌, Result}
use Rattle.grammar.specs.Reading.{bind_built, bind_grown, chain_from, choice_from, is_choosing, is_following, or_more, signs_left, stars_from, step_from, unit_from}
use Rattle.kat.specs.Terms.{chain, choice}
use Rattle.grammar.specs.declared.fault.RuleFault.{RuleFault}
use Rattle.grammar.proofs.Complete.{by_suc}
use Rattle.rules.specs.Builders.{ChainRead, ChoiceRead, StepRead, UnitRead, built_of, grown_of, shown_built, shown_grown}
use Rattle.rules.specs.Machines.{machine_of}
use Rattle.rules.specs.Readers.{ahead_by, means_of}
use Rattle.rules.specs.declared.part.Built.{Built}
use Rattle.rules.specs.declared.part.Grown.{Grown}
use Rattle.rules.specs.declared.reader.Reader.{Reader}

module _ (levels : ℕ) (a b : Reader) where
  pub choice_by : (r : Result Grown RuleFault)
      → ((f : ℕ) → signs_left (ahead_by a) * 4 + 3 ≤ f → grown_of r b ≡ shown_grown a.machine.nodes a.nodes.now (bind_grown (chain_from f (means_of a.names.now) levels (ahead_by a) (machine_of a.machine)) (or_more is_choosing choice (choice_from f (means_of a.names.now) levels))))
      → ChoiceRead levels r a b
  choice_by r h = by_suc (λ f. grown_of r b ≡ shown_grown a.machine.nodes a.nodes.now (choice_from f (means_of a.names.now) levels (ahead_by a) (machine_of a.machine))) (signs_left (ahead_by a) * 4 + 3) h

  pub chain_by : (r : Result Grown RuleFault)
      → ((f : ℕ) → signs_left (ahead_by a) * 4 + 2 ≤ f → grown_of r b ≡ shown_grown a.machine.nodes a.nodes.now (bind_grown (step_from f (means_of a.names.now) levels (ahead_by a) (machine_of a.machine)) (or_more is_following chain (chain_from f (means_of a.names.now) levels))))
      → ChainRead levels r a b
  chain_by r h = by_suc (λ f. grown_of r b ≡ shown_grown a.machine.nodes a.nodes.now (chain_from f (means_of a.names.now) levels (ahead_by a) (machine_of a.machine))) (signs_left (ahead_by a) * 4 + 2) h

  pub step_by : (r : Result Grown RuleFault)
      → ((f : ℕ) → signs_left (ahead_by a) * 4 + 1 ≤ f → grown_of r b ≡ shown_grown a.machine.nodes a.nodes.now (bind_built (unit_from f (means_of a.names.now) levels (ahead_by a) (machine_of a.machine)) (λ u. stars_from (means_of a.names.now) levels u.ahead u.term u.machine)))
      → StepRead levels r a b
  step_by r h = by_suc (λ f. grown_of r b ≡ shown_grown a.machine.nodes a.nodes.now (step_from f (means_of a.names.now) levels (ahead_by a) (machine_of a.machine))) (signs_left (ahead_by a) * 4 + 1) h

  pub unit_by : (r : Result Built RuleFault)
      → ((f : ℕ) → signs_left (ahead_by a) * 4 ≤ f → built_of r b ≡ shown_built a.machine.nodes a.nodes.now (unit_from (suc f) (means_of a.names.now) levels (ahead_by a) (machine_of a.machine)))
      → UnitRead levels r a b
  unit_by r h = by_suc (λ f. built_of r b ≡ shown_built a.machine.nodes a.nodes.now (unit_from f (means_of a.names.now) levels (ahead_by a) (machine_of a.machine))) (signs_left (ahead_by a) * 4) h
