-- By induction on the derivation.
use Rattle.grammar.proofs.Sizes.{size_counts_signs}
use Rattle.grammar.proofs.theorems.a_rules_size_counts_its_signs.Goals as goal

pub returns : goal.returns
returns c = record { one_part_for_each_sign = size_counts_signs }
