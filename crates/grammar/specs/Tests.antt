-- The terms that can stand behind `!`: a test's name, `skip`, `stop`, `!` of a test, and a choice or chain of tests.
use Rattle.std.specs.Prelude.{ℕ}
use Rattle.kat.specs.Terms.{Term, chain, choice, not, skip, stop, test}

pub data ATest : Term → Type 0 where
  test_name : (t : ℕ) → ATest (test t)
  test_skip : ATest skip
  test_stop : ATest stop
  test_not : {e : Term} → ATest e → ATest (not e)
  test_choice : {e f : Term} → ATest e → ATest f → ATest (choice e f)
  test_chain : {e f : Term} → ATest e → ATest f → ATest (chain e f)
