-- From 64 on a mask has no bit, as a number of 64 bits does not reach there.
use Rattle.std.proofs.Common.{sym, ◌∙◌, arith}
use Rattle.std.proofs.lemmas.Bool.{le-ltb}
use Rattle.masks.proofs.Operations.{bit_past}
use Rattle.masks.proofs.has.Goals as goal

pub returns-else-place-lt64 : goal.returns-else-place-lt64
returns-else-place-lt64 c = record { bit = le-ltb c.args.place 64 (omega arith) ∙ sym (bit_past c.args.mask 64 c.args.place (omega arith) (omega arith)) }
