-- By induction on the term.
use Rattle.kat.proofs.Passing.{passes_is_allowed}
use Rattle.kat.proofs.theorems.passing_is_allowing_one_situation.Goals as goal

pub returns : goal.returns
returns c = record { passes_is_allowed = passes_is_allowed }
