-- Each turn puts a blank and a situation or an action, and behind the last byte all are put.
use Rattle.std.proofs.Common.{true, false, [], get_or, refl, ap, ◌∙◌}
use Rattle.sheet.specs.Laid.{sheet_of}
use Rattle.showing.proofs.Told.{turn_put}
use Rattle.showing.proofs.told_runs.Telling.put_turns.Goals as goal
use Rattle.showing.proofs.told_runs.Telling.put_turns.Goals.{then-situation+in_ok-put_situation, else-situation+in_ok-put-2}

pub loop-b-preserved : goal.loop-b-preserved
loop-b-preserved c =
    let laid = sheet_of c.args.self.now.sheet.now in
    elim c.if-situation.branch [
      | then-situation+in_ok-put_situation w ↦
          simp w.out-is
          (turn_put _ _ laid c.args.self.now.words c.args.run.now c.loop-b.b-index c.loop-b.situation true _ _ _ _ c.loop-b-test.true w.if-situation.true
          refl c.loop-b.invariant c.in_ok-put.ensures w.in_ok-put_situation.ensures)
      | else-situation+in_ok-put-2 w ↦
          let named = w.action_name.ensures ∙ ap (λ n. get_or n.actions (get_or c.args.run.now c.loop-b.b-index 0) []) w.names.ensures in
          simp w.out-is
          (turn_put _ _ laid c.args.self.now.words c.args.run.now c.loop-b.b-index c.loop-b.situation false _ _ _ _ c.loop-b-test.true w.if-situation.false
          named c.loop-b.invariant c.in_ok-put.ensures w.in_ok-put-2.ensures)
    ]
