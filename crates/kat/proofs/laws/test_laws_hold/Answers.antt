-- A test is told by the situations in which it passes.
use Rattle.kat.proofs.Testing.{test_laws}
use Rattle.kat.proofs.laws.test_laws_hold.Goals as goal

pub returns : goal.returns
returns c = record { tests_are_a_boolean_algebra = test_laws }
