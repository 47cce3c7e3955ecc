-- The traced moves lead to the pair, and what fewer moves lead to stands before it.
use Rattle.runs.proofs.Different.{different_shows_a_shortest_run}
use Rattle.runs.proofs.theorems.different_shows_a_shortest_run.Goals as goal

pub returns : goal.returns
returns c = record { different_shows_a_shortest_run = different_shows_a_shortest_run }
