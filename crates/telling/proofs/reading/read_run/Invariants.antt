-- What was read, with what is still ahead, is the whole.
use Rattle.std.proofs.Common.{◌≡◌, vec_items}
use Rattle.sheet.specs.Held.{names_of}
use Rattle.telling.specs.Told.{told_by}
use Rattle.telling.proofs.Ahead.{ahead}
use Rattle.words.specs.Words.{words_of}
use Rattle.telling.proofs.reading.read_run.Given as goal

abbrev pub invariant-loop-word : goal.invariant-loop-word
invariant-loop-word l =
    (goal.iterator-loop-word).can_next l.words
    × (goal.iterator-loop-word).is_finite l.words
    × (ahead (vec_items l.run) (told_by l.situations (names_of l.names) (words_of l.words.rest.now)) ≡ told_by l.situations (names_of l.names) (words_of l.text))
