use Rattle.std.proofs.Common.{◌≡◌, arith}
use Rattle.std.proofs.lemmas.Grind.{common_steps}
use Rattle.walk.specs.Judged.{run_at}
use Rattle.walk.specs.Traced.{moves_to}
use Rattle.walk.proofs.Telling.{Told, met, same_moves, told}
use Rattle.walk.proofs.showing.show.Given as given
use Rattle.walk.proofs.showing.show.Goals as goal
use Rattle.walk.proofs.showing.show.Goals.{After-actions-actions, After-has}

-- The moves to the pair at which the walk ended are those of the run that is shown.
moves : (g : given.Over) (c : After-actions-actions g) → moves_to c.args.table.now c.args.i ≡ (run_at (g.F.Flow.meaning c.args.sides.now.left.now) (g.G.Flow.meaning c.args.sides.now.right.now) c.args.i).moves
moves g c = same_moves (g.F.Flow.meaning c.args.sides.now.left.now) (g.G.Flow.meaning c.args.sides.now.right.now) c.args.table.now c.args.i c.requires.ended

-- What its masks tell of that run.
masks : (g : given.Over) (c : After-has g) → Told (g.F.Flow.meaning c.args.sides.now.left.now) (g.G.Flow.meaning c.args.sides.now.right.now) c.args.i c.accept-mask.result c.accept.result
masks g c =
    told (g.F.Flow.meaning c.args.sides.now.left.now) (g.G.Flow.meaning c.args.sides.now.right.now) c.args.table.now c.args.i c.requires.ended _ _ c.accept-mask.ensures.as_meant c.accept.ensures.as_meant
    c.requires.compared (g.F.Flow.lawful c.args.sides.now.left.now) (g.G.Flow.lawful c.args.sides.now.right.now)

pub invariant_of-trail : goal.invariant_of-trail
invariant_of-trail g c = record { met_earlier = met (g.F.Flow.meaning c.args.sides.now.left.now) (g.G.Flow.meaning c.args.sides.now.right.now) c.args.table.now c.args.i c.requires.ended }

pub returns-then-run-wanted : goal.returns-then-run-wanted
returns-then-run-wanted g c =
    let m = moves g (goal.at.returns-then-run-wanted g c).After-actions-actions in
    record { answer = grind (arith, common_steps); run_afterwards = grind (arith, common_steps) }

pub returns-then-has : goal.returns-then-has
returns-then-has g c =
    let m = moves g (goal.at.returns-then-has g c).After-actions-actions in
    let t = masks g (goal.at.returns-then-has g c).After-has in
    record { answer = grind (arith, common_steps); run_afterwards = grind (arith, common_steps) }

pub returns-else-has : goal.returns-else-has
returns-else-has g c =
    let m = moves g (goal.at.returns-else-has g c).After-actions-actions in
    let t = masks g (goal.at.returns-else-has g c).After-has in
    record { answer = grind (arith, common_steps); run_afterwards = grind (arith, common_steps) }
