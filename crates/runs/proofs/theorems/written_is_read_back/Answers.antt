-- By induction on the moves.
use Rattle.runs.proofs.Written.{written_is_read_back}
use Rattle.runs.proofs.theorems.written_is_read_back.Goals as goal

pub returns : goal.returns
returns c = record { written_is_read_back = written_is_read_back }
