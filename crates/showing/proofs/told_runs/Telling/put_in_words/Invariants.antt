-- The tests that were not come to are still ahead.
use Rattle.std.proofs.Common.{drop, vec_items}
use Rattle.sheet.specs.Laid.{sheet_of}
use Rattle.texts.proofs.Ahead.{Ahead}
use Rattle.showing.specs.Told.{holding, in_words}
use Rattle.showing.proofs.told_runs.Telling.put_in_words.Given as goal

abbrev pub invariant-loop-t : goal.invariant-loop-t
invariant-loop-t l =
    Ahead (in_words (sheet_of l.self.sheet.now) l.s) (vec_items l.initial.out)
    (holding (λ t. (sheet_of l.self.sheet.now).meaning.holds t l.s) l.first l.t (drop l.t (sheet_of l.self.sheet.now).names.tests)) (vec_items l.out)
