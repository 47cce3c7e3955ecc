-- The walk's own list passes, and a list that passes shows the same runs.
use Rattle.runs.proofs.Found.{a_list_convinces}
use Rattle.runs.proofs.theorems.a_list_convinces.Goals as goal

pub returns : goal.returns
returns c = record { a_list_convinces = a_list_convinces }
