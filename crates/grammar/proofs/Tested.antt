-- Tests as the reader tells them and as a relation, and that they have no places.
use Rattle.std.proofs.Common.{◌≡◌, true, [], ◌++◌, map, refl, ap₂}
use Rattle.std.proofs.lemmas.Bool.{false≢true, and_from, and_parts}
use Rattle.kat.specs.Places.{and_then, places_in}
use Rattle.kat.specs.Terms.{Term, act, chain, choice, is_test, not, skip, star, stop, test}
use Rattle.grammar.specs.Tests.{ATest, test_chain, test_choice, test_name, test_not, test_skip, test_stop}
use Rattle.grammar.specs.Theorems.{TestsAreTold}

-- A test is told to be one.
pub test_told : {e : Term} → ATest e → is_test e ≡ true
test_told (test_name t) = refl
test_told test_skip = refl
test_told test_stop = refl
test_told (test_not a) = test_told a
test_told (test_choice a b) = and_from _ _ (test_told a) (test_told b)
test_told (test_chain a b) = and_from _ _ (test_told a) (test_told b)

-- What is told to be a test is one.
pub told_test : (e : Term) → is_test e ≡ true → ATest e
told_test (test t) h = test_name t
told_test (act a p) h = absurd (false≢true h)
told_test skip h = test_skip
told_test stop h = test_stop
told_test (not e) h = test_not (told_test e h)
told_test (choice e f) h = let both = and_parts (is_test e) (is_test f) h in test_choice (told_test e both.0) (told_test f both.1)
told_test (chain e f) h = let both = and_parts (is_test e) (is_test f) h in test_chain (told_test e both.0) (told_test f both.1)
told_test (star e) h = absurd (false≢true h)

-- Both ways.
pub tests_are_told : TestsAreTold
tests_are_told e = (told_test e, test_told)

-- A test has no places.
pub test_places : {e : Term} → ATest e → places_in e ≡ []
test_places (test_name t) = refl
test_places test_skip = refl
test_places test_stop = refl
test_places (test_not a) = refl
test_places (test_choice a b) = ap₂ ◌++◌ (test_places a) (test_places b)
test_places (test_chain {f = f} a b) = ap₂ (λ xs ys. map (and_then f) xs ++ ys) (test_places a) (test_places b)
