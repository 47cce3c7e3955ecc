-- A situation and an action were read, and put behind what was read before.
use Rattle.sheet.specs.Held.{names_of}
use Rattle.telling.proofs.Ahead.{turn}
use Rattle.telling.proofs.reading.read_run.Goals as goal

pub loop-word-preserved : goal.loop-word-preserved
loop-word-preserved c = (
  tt,
  tt,
  turn c.args.situations (names_of c.args.names.now) _ _ _ _ _ _ _ _ _ c.in-Some-situation.s c.in-Some-action.a
      c.loop-word.invariant.2
      c.in-Some.ensures.steps.words
      c.in-Some-next.ensures.steps.words
      c.in-Some-situation.ensures
      c.in-Some-action.ensures
      c.in_ok-push.ensures.items
      c.in_ok-push-2.ensures.items,
)
