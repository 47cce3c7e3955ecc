-- What is found from the pair reached on is what is found at all.
use Rattle.std.proofs.Common.{◌≡◌}
use Rattle.walk.proofs.Examined.{from, whole}
use Rattle.walk.proofs.sides.Sides.examine.Given as goal

abbrev pub invariant-loop-i : goal.invariant-loop-i
invariant-loop-i g l = from (g.F.Flow.meaning l.self.left.now) (g.G.Flow.meaning l.self.right.now) l.list l.i ≡ whole (g.F.Flow.meaning l.self.left.now) (g.G.Flow.meaning l.self.right.now) l.list
