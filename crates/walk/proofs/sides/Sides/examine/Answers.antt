use Rattle.walk.proofs.Examined.{fails, onward}
use Rattle.walk.proofs.sides.Sides.examine.Goals as goal

pub returns-in-Some : goal.returns-in-Some
returns-in-Some g c = record {
  found = fails (g.F.Flow.meaning c.args.self.now.left.now) (g.G.Flow.meaning c.args.self.now.right.now) c.args.list.now c.loop-i.i c.loop-i-test.true c.loop-i.invariant
      c.in-Some.failing c.in-Some.ensures.fails;
}

pub loop-i-preserved : goal.loop-i-preserved
loop-i-preserved g c =
    onward (g.F.Flow.meaning c.args.self.now.left.now) (g.G.Flow.meaning c.args.self.now.right.now) c.args.list.now c.loop-i.i c.loop-i-test.true c.loop-i.invariant
    c.in_default.ensures.fails
