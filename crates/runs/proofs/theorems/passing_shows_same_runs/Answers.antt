-- A list that passes is never left by moves, and the flows agree at each of its pairs.
use Rattle.runs.proofs.Closed.{passing_shows_same_runs}
use Rattle.runs.proofs.theorems.passing_shows_same_runs.Goals as goal

pub returns : goal.returns
returns c = record { passing_shows_same_runs = passing_shows_same_runs }
