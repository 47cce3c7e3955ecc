use Rattle.std.proofs.Common.{◌≡◌, length, map, refl, ◌∙◌, arith}
use Rattle.std.proofs.lemmas.Iterator.Consumers.{YieldsList-from_first, count_from_yields_List}
use Rattle.std.proofs.lemmas.List.{length-reverse}
use Rattle.runs.proofs.Lengths.{traced_length}
use Rattle.walk.specs.declared.trail.Trail.{Trail}
use Rattle.walk.specs.Records.{listed_of}
use Rattle.walk.specs.Traced.{move_to, moves_back, moves_to}
use Rattle.walk.proofs.trail.Trail.actions.Goals as goal

pub returns : goal.returns
returns c =
    let table = c.args.self.table.now in
    let at = c.args.self.at in
    let counted : c.count.result ≡ length (moves_to table at) =
    count_from_yields_List _ _ c.count.ensures.ran (YieldsList-from_first move_to (λ (trail : Trail). moves_back trail.table.now trail.at) (moves_back table at) refl) ∙ length-reverse (moves_to table at) in
    record { counted = counted; fewer = omega (arith, counted, traced_length (map listed_of table) at at, c.args.self.met_earlier.0) }
