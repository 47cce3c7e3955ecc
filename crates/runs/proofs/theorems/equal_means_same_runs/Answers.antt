-- Every listed pair was followed, so the walk's list passes the check.
use Rattle.runs.proofs.Equal.{equal_means_same_runs}
use Rattle.runs.proofs.theorems.equal_means_same_runs.Goals as goal

pub returns : goal.returns
returns c = record { equal_means_same_runs = equal_means_same_runs }
