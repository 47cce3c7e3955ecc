-- Every rule is granted: the builders read all that is derived.
use Rattle.grammar.proofs.Rules.{rule_is_granted}
use Rattle.grammar.proofs.theorems.a_rule_is_granted.Goals as goal

pub returns : goal.returns
returns c = record { rule_is_granted = rule_is_granted }
