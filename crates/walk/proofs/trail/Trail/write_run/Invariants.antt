-- The moves that have been passed are written, behind as many places as turns are left.
use Rattle.std.proofs.Common.{◌≡◌}
use Rattle.walk.specs.Traced.{moves_back}
use Rattle.walk.proofs.Backward.{Writing}
use Rattle.walk.proofs.trail.Trail.write_run.Given as goal

abbrev pub invariant-loop-turn : goal.invariant-loop-turn
invariant-loop-turn l = record {
  first : l.turn-iterator.a.iter.start ≡ 0;
  writing : Writing (moves_back l.self.table.now l.self.at) (moves_back l.turn-iterator.b.table.now l.turn-iterator.b.at) l.initial.run l.run l.turn-iterator.a.iter.end;
}
