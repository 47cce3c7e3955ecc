-- By induction on how often a run repeats.
use Rattle.kat.proofs.Repeating.{star_laws}
use Rattle.kat.proofs.laws.star_laws_hold.Goals as goal

pub returns : goal.returns
returns c = record { star_is_the_least_that_unfolds = star_laws }
