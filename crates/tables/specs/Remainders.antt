-- What is left to do behind the places that share a number.
use Rattle.std.specs.Prelude.{ℕ, Bool, false, ◌&&◌, ◌||◌, List, [], ◌∷◌, ◌==◌}
use Rattle.kat.specs.Places.{Place, begins, passes, places_in}
use Rattle.kat.specs.Terms.{Term}

-- Of the places with this number, some has a remainder that is as asked.
abbrev pub some_at : ℕ → (Term → Bool) → List Place → Bool
some_at p asked [] = false
some_at p asked (place ∷ places) = (place.number == p && asked place.remainder) || some_at p asked places

-- Whether a term may end in a situation behind the place of a number: some remainder there passes.
abbrev pub ends_at : (ℕ → ℕ → Bool) → Term → ℕ → ℕ → Bool
ends_at holds e s p = some_at p (λ r. passes holds r s) (places_in e)

-- Whether a term may go on in a situation from the place of one number to that of another: some remainder there begins with it.
abbrev pub goes_on : (ℕ → ℕ → Bool) → Term → ℕ → ℕ → ℕ → Bool
goes_on holds e s p q = some_at p (λ r. begins holds r s q) (places_in e)

-- The start as a place: its number is 0, the whole term is its remainder, and no action stands there.
abbrev pub start_of : Term → Place
start_of e = record { number = 0; action = 0; remainder = e }

-- The places of a term with the start in front of them.
abbrev pub places_of : Term → List Place
places_of e = start_of e ∷ places_in e
