-- What there is, with the parts still ahead, makes the whole.
use Rattle.std.proofs.Common.{◌≡◌, Ok, drop}
use Rattle.vocabulary.specs.Copies.{copied_meaning}
use Rattle.desk.specs.Joining.{join_all, vocabulary_of}
use Rattle.desk.proofs.joining.vocabulary_of.Given as goal

abbrev pub invariant-loop-part : goal.invariant-loop-part
invariant-loop-part l = join_all (Ok (copied_meaning l.all)) (drop l.part-index l.rest) ≡ vocabulary_of l.parts
