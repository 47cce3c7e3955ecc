-- What is granted is a rule: what the builders build, with the end behind it.
use Rattle.grammar.proofs.Granted.{granted_is_a_rule}
use Rattle.grammar.proofs.theorems.what_is_granted_is_a_rule.Goals as goal

pub returns : goal.returns
returns c = record { granted_is_a_rule = granted_is_a_rule }
