-- The lines of the records that were not come to are still ahead.
use Rattle.std.proofs.Common.{drop, vec_items}
use Rattle.texts.proofs.Ahead.{Ahead}
use Rattle.showing.specs.Pairs.{pair_lines}
use Rattle.showing.proofs.pairs.put_pairs.Given as goal

abbrev pub invariant-loop-number : goal.invariant-loop-number
invariant-loop-number l = Ahead (pair_lines 0 l.records) (vec_items l.initial.out) (pair_lines l.number (drop l.number l.records)) (vec_items l.out)
