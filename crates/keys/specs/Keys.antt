-- Where the first element that passes a test lies in a list, in the words of places.
use Rattle.std.specs.Prelude.{◌≡◌, ℕ, ◌<◌, Bool, true, false, List, length, Some, None, Option, slice_index_or}

-- The element at the place passes and none before it does; or, where there is no place, none passes at all.
abbrev pub Earliest : {X : Type 0} → (X → Bool) → List X → Option ℕ → Type 0
Earliest {X} test xs None = (k : ℕ) (d : X) → k < length xs → test (slice_index_or xs k d) ≡ false
Earliest {X} test xs (Some i) = (i < length xs) × ((d : X) → test (slice_index_or xs i d) ≡ true) × ((k : ℕ) (d : X) → k < i → test (slice_index_or xs k d) ≡ false)
