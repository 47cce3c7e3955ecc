-- The places are numbered on from the actions before: by induction on the derivation.
use Rattle.grammar.proofs.Numbering.{rule_is_numbered}
use Rattle.grammar.proofs.theorems.a_rules_places_are_in_text_order.Goals as goal

pub returns : goal.returns
returns c = record { places_are_numbered = rule_is_numbered }
