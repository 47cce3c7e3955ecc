-- What was read, with what is still ahead, is the whole.
use Rattle.std.proofs.Common.{◌≡◌, vec_items}
use Rattle.words.specs.Words.{words_of}
use Rattle.script.specs.Lines.{parts_of}
use Rattle.script.proofs.Parts.{ahead}
use Rattle.script.proofs.reading.parts.Given as goal

abbrev pub invariant-loop-kind : goal.invariant-loop-kind
invariant-loop-kind l =
    (goal.iterator-loop-kind).can_next l.words
    × (goal.iterator-loop-kind).is_finite l.words
    × (ahead (vec_items l.parts) (parts_of (words_of l.words.rest.now)) ≡ parts_of (words_of l.rest))
