-- The book keeps the flows that stand by the calls, marked by their runs, and a group's number is told by its mark.
use Rattle.ledger.proofs.Groups.{groups_mean_runs_always}
use Rattle.ledger.proofs.theorems.groups_mean_same_runs.Goals as goal

pub returns : goal.returns
returns c = record { groups_mean_same_runs = groups_mean_runs_always }
