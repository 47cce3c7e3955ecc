-- The first place that passes a test, in a list made from another and in a list that grows. Serves those who search by `find`.
use Rattle.std.proofs.Common.{◌≡◌, refl, sym, ℕ, ◌<◌, Bool, false, cond, List, [], ◌∷◌, ◌++◌, map, length, get_or, Some, None, Option, arith, length-append}
use Rattle.std.specs.List.{position}
use Rattle.std.proofs.lemmas.Bool.Decides.{nat_tests}
use Rattle.keys.specs.Keys.{Earliest}
use Rattle.std.proofs.lemmas.List.Quantifiers.{position-Some}
use Rattle.std.proofs.lemmas.List.Folds.{position_or_len_push, prefix_len-append}
use Rattle.std.proofs.lemmas.List.Sums.{fails_before_first, prefix_len-le-length}

-- searching what elements are made into is searching the elements by what they are made into
pub first_of_made : {X Y : Type 0} (made : X → Y) (test : Y → Bool) (xs : List X) → position (λ x. test (made x)) xs ≡ position test (map made xs)
first_of_made made test [] = refl
first_of_made made test (x ∷ xs) = let e = first_of_made made test xs in grind (arith, nat_tests)

-- a list that grows behind keeps what was found in it
pub first_kept : {X : Type 0} (test : X → Bool) (xs ys : List X) (i : ℕ) → position test xs ≡ Some i → position test (xs ++ ys) ≡ Some i
first_kept test xs ys i h = grind (arith, nat_tests, prefix_len-append, length-append)

-- where nothing was found, one more element behind is found if it passes
pub first_behind : {X : Type 0} (test : X → Bool) (xs : List X) (y : X) → position test xs ≡ None → position test (xs ++ y ∷ []) ≡ cond (test y) (Some (length xs)) None
first_behind test xs y h = grind (arith, nat_tests, position_or_len_push test xs y, prefix_len-le-length, length-append)

-- where nothing was found, no element passes
pub first_none : {X : Type 0} (test : X → Bool) (xs : List X) (i : ℕ) (d : X) → position test xs ≡ None → i < length xs → test (get_or xs i d) ≡ false
first_none test xs i d h lt = grind (arith, nat_tests, fails_before_first)

-- the place of the first that passes is the earliest
pub earliest_of : {X : Type 0} (test : X → Bool) (xs : List X) (r : Option ℕ) → r ≡ position test xs → Earliest test xs r
earliest_of test xs None h = λ k d lt. first_none test xs k d (sym h) lt
earliest_of test xs (Some i) h = (
  grind (arith, nat_tests, prefix_len-le-length),
  (λ d. (position-Some test xs i d (sym h)).1),
  λ k d lt. (position-Some test xs i d (sym h)).2 k lt,
)
