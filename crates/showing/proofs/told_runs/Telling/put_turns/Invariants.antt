-- The turns that were not come to are still ahead.
use Rattle.std.proofs.Common.{true, drop, vec_items}
use Rattle.sheet.specs.Laid.{sheet_of}
use Rattle.texts.proofs.Ahead.{Ahead}
use Rattle.showing.specs.Told.{turns}
use Rattle.showing.proofs.told_runs.Telling.put_turns.Given as goal

abbrev pub invariant-loop-b : goal.invariant-loop-b
invariant-loop-b l = Ahead (turns (sheet_of l.self.sheet.now) l.self.words true l.run) (vec_items l.initial.out) (turns (sheet_of l.self.sheet.now) l.self.words l.situation (drop l.b-index l.run)) (vec_items l.out)
