-- Each turn joins in the mask of the lowest place that is left.
use Rattle.std.proofs.Common.{get_or, arith}
use Rattle.tables.proofs.Clearing.{lowest_joined, none_left}
use Rattle.places.proofs.answering.union_of.Goals as goal

pub loop-rest-preserved : goal.loop-rest-preserved
loop-rest-preserved c = lowest_joined (λ p. get_or c.args.row.now p 0) c.args.code c.loop-rest.rest c.loop-rest.union c.loop-rest.invariant (omega arith) c.loop-rest-test.true

pub returns : goal.returns
returns c = none_left (λ p. get_or c.args.row.now p 0) c.args.code c.loop-rest.rest c.loop-rest.union c.loop-rest.invariant c.loop-rest-test.false
