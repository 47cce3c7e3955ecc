-- The worked cases compute.
use Rattle.worked.proofs.Worked.{worked}
use Rattle.worked.proofs.worked_cases_come_out_so.Goals as goal

pub returns : goal.returns
returns c = record { as_worked_by_hand = worked }
