-- The pair has been followed in the situations below the one reached, and in that one along the actions below the one reached.
use Rattle.std.proofs.Common.{◌≡◌}
use Rattle.runs.specs.Walks.{followed, moves_below}
use Rattle.walk.specs.Listings.{listed, room}
use Rattle.walk.specs.Records.{pair_of}
use Rattle.walk.proofs.Rows.{moves_as_far}
use Rattle.walk.proofs.listing.Listing.follow.Given as goal

abbrev pub invariant-loop-action : goal.invariant-loop-action
invariant-loop-action g l = record {
  name : l.self.table.ghost_name ≡ l.fn.self.table.ghost_name;
  same_room : room l.self ≡ room l.fn.self;
  lists : listed l.self ≡ followed (g.F.Flow.meaning l.sides.left.now) (g.G.Flow.meaning l.sides.right.now) (listed l.fn.self) l.from (pair_of l.pair) (moves_as_far (g.F.Flow.meaning l.sides.left.now).actions l.situation l.action);
}

abbrev pub invariant-loop-situation : goal.invariant-loop-situation
invariant-loop-situation g l = record {
  name : l.self.table.ghost_name ≡ l.fn.self.table.ghost_name;
  same_room : room l.self ≡ room l.fn.self;
  lists : listed l.self ≡ followed (g.F.Flow.meaning l.sides.left.now) (g.G.Flow.meaning l.sides.right.now) (listed l.fn.self) l.from (pair_of l.pair) (moves_below l.situation (g.F.Flow.meaning l.sides.left.now).actions);
}
