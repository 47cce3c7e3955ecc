-- What is left of the bytes, from the code that was reached, is allowed exactly when the whole is.
use Rattle.std.proofs.Common.{◌≡◌, length}
use Rattle.runs.specs.Runs.{run_of}
use Rattle.flows.specs.Written.{allows_rest, allows_written}
use Rattle.flows.proofs.allowing.allows.Given as goal

abbrev pub invariant-loop-rest : goal.invariant-loop-rest
invariant-loop-rest g l = allows_rest (g.F.Flow.meaning l.flow) l.code (run_of l.rest) ≡ allows_written (g.F.Flow.meaning l.flow) l.run

abbrev pub decreases-loop-rest : goal.decreases-loop-rest
decreases-loop-rest g l = length l.rest
