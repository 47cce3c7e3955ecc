-- Joining runs is associative and has the single situations as its units.
use Rattle.kat.proofs.Chaining.{chain_laws}
use Rattle.kat.proofs.laws.chain_laws_hold.Goals as goal

pub returns : goal.returns
returns c = record { chain_distributes_over_choice = chain_laws }
