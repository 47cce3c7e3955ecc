-- By induction on the moves of the run, from every code.
use Rattle.kat.proofs.PlaceRuns.{places_allow_the_runs}
use Rattle.kat.proofs.theorems.places_allow_the_runs.Goals as goal

pub returns : goal.returns
returns c = record { exactly_the_runs_of_the_term = places_allow_the_runs }
