-- The first i pairs have been followed.
use Rattle.std.proofs.Common.{◌≡◌, ◌-◌, length}
use Rattle.walk.specs.Listings.{room}
use Rattle.walk.proofs.Going.{Going}
use Rattle.walk.proofs.walking.walk.Given as goal

abbrev pub invariant-loop-pair : goal.invariant-loop-pair
invariant-loop-pair g l = record {
  name : l.listing.table.ghost_name ≡ l.initial.listing.table.ghost_name;
  going : Going (g.F.Flow.meaning l.sides.left.now) (g.G.Flow.meaning l.sides.right.now) (length l.fn.table) l.listing l.i;
}

abbrev pub decreases-loop-pair : goal.decreases-loop-pair
decreases-loop-pair g l = room l.listing - l.i
