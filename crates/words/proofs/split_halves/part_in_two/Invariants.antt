-- While no parting was met, the last is still in front of the place that was looked at.
use Rattle.std.proofs.Common.{◌≡◌, ◌≤◌, length}
use Rattle.words.specs.Halves.{last_below}
use Rattle.words.proofs.split_halves.part_in_two.Given as goal

abbrev pub invariant-loop-i : goal.invariant-loop-i
invariant-loop-i l = (l.i ≤ length l.bytes) × (last_below l.bytes (length l.bytes) ≡ last_below l.bytes l.i)
