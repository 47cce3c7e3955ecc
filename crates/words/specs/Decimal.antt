-- How a number is printed.
use Rattle.std.specs.Prelude.{◌≡◌, ℕ, List, [], ◌∷◌, Some, slice_index_or}
use Rattle.words.specs.Number.{number_of}

-- These are the digits of the number: they are read back as the number, and begin with a zero only where they are just that.
pub record DigitsOf (n : ℕ) (bs : List ℕ) : Type 0 where
  pub back : number_of bs ≡ Some n
  pub first : slice_index_or bs 0 0 ≡ 48 → bs ≡ 48 ∷ []
