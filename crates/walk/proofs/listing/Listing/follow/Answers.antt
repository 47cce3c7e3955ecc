use Rattle.std.proofs.Common.{arith}
use Rattle.std.proofs.lemmas.Grind.{common_steps}
use Rattle.walk.specs.Listings.{listed}
use Rattle.walk.specs.Records.{pair_of}
use Rattle.walk.proofs.Rows.{no_longer, puts}
use Rattle.walk.proofs.listing.Listing.follow.Goals as goal

pub returns-in_err-put_down-clause-grew : goal.returns-in_err-put_down-clause-grew
returns-in_err-put_down-clause-grew g c =
    let f = g.F.Flow.meaning c.args.sides.now.left.now in
    let h = g.G.Flow.meaning c.args.sides.now.right.now in
    let e = puts f h (listed c.args.self.now) c.args.from (pair_of c.args.pair) c.loop-situation.situation c.loop-action.action in
    let l = no_longer f h (listed c.args.self.now) c.args.from (pair_of c.args.pair) c.loop-situation.situation c.loop-action.action in
    grind (arith, common_steps)

pub loop-action-preserved : goal.loop-action-preserved
loop-action-preserved g c =
    let f = g.F.Flow.meaning c.args.sides.now.left.now in
    let h = g.G.Flow.meaning c.args.sides.now.right.now in
    let e = puts f h (listed c.args.self.now) c.args.from (pair_of c.args.pair) c.loop-situation.situation c.loop-action.action in
    grind (arith, common_steps)
