-- Neither of the other endings can be.
use Rattle.runs.proofs.Found.{same_runs_are_found}
use Rattle.runs.proofs.theorems.same_runs_are_found.Goals as goal

pub returns : goal.returns
returns c = record { same_runs_are_found = same_runs_are_found }
