-- With what the row has at the places that are left, the union is whole.
use Rattle.std.proofs.Common.{get_or}
use Rattle.tables.proofs.Clearing.{Left}
use Rattle.places.proofs.answering.union_of.Given as goal

abbrev pub invariant-loop-rest : goal.invariant-loop-rest
invariant-loop-rest l = Left (λ p. get_or l.row p 0) l.code l.rest l.union

abbrev pub decreases-loop-rest : goal.decreases-loop-rest
decreases-loop-rest l = l.rest
