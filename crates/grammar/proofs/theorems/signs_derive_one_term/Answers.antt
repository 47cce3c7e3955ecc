-- Signs derive one term: the reader, past its limits, reads each derivation.
use Rattle.grammar.proofs.Rules.{one_term}
use Rattle.grammar.proofs.theorems.signs_derive_one_term.Goals as goal

pub returns : goal.returns
returns c = record { one_term = one_term }
