-- By induction on the term, and on why it is a test.
use Rattle.grammar.proofs.Tested.{tests_are_told}
use Rattle.grammar.proofs.theorems.the_tests_are_told.Goals as goal

pub returns : goal.returns
returns c = record { exactly_the_tests = tests_are_told }
