-- What is shown of terms, their runs and their places.
use Rattle.std.specs.Prelude.{◌≡◌, ℕ, Bool, true}
use Rattle.runs.specs.Flows.{allows}
use Rattle.runs.specs.Runs.{Run, Within, single}
use Rattle.kat.specs.Algebra.{Allowed}
use Rattle.kat.specs.Places.{Numbered, passes, place_flow}
use Rattle.kat.specs.Terms.{Term}

-- A term passes in a situation exactly when it allows the run of that situation alone.
abbrev pub PassesIsAllowed : Type 0
PassesIsAllowed = (holds : ℕ → ℕ → Bool) (e : Term) (s : ℕ)
    → (passes holds e s ≡ true → Allowed holds e (single s)) × (Allowed holds e (single s) → passes holds e s ≡ true)

-- The flow of a term's places allows a run exactly when the term does.
abbrev pub PlacesAllowTheRuns : Type 0
PlacesAllowTheRuns = (n k : ℕ) (holds : ℕ → ℕ → Bool) (e : Term) → Numbered e → (run : Run) → Within n k run
    → (allows (place_flow n k holds e) run ≡ true → Allowed holds e run) × (Allowed holds e run → allows (place_flow n k holds e) run ≡ true)
