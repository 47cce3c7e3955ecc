-- A fault is never granted: what is granted has the end behind it.
use Rattle.grammar.proofs.Granted.{fault_never_granted}
use Rattle.grammar.proofs.theorems.a_fault_is_never_granted.Goals as goal

pub returns : goal.returns
returns c = record { fault_never_granted = fault_never_granted }
