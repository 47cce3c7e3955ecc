-- Kleene algebra with tests, as runs: which runs a term allows, where `holds t s` says whether test t holds in situation s.
use Rattle.std.specs.Prelude.{◌≡◌, ℕ, zero, suc, Bool, true, ◌⊎◌}
use Rattle.runs.specs.Runs.{Run, first_of, joined, one_action, single}
use Rattle.kat.specs.Terms.{Term, act, chain, choice, skip, star, stop, test}
use Rattle.kat.specs.Terms as term

-- The run is one of the single situations.
abbrev pub Single : Run → Type 0
Single run = (s : ℕ) × (run ≡ single s)

-- A run of P and a run of Q, joined: the last situation of the one is the first of the other, and is written once.
abbrev pub Joined : (Run → Type 0) → (Run → Type 0) → Run → Type 0
Joined P Q run = (x y : Run) × P x × Q y × (x.last ≡ first_of y) × (run ≡ joined x y)

-- So many runs of P, joined one behind the other; none is any single situation.
abbrev pub Power : (Run → Type 0) → ℕ → Run → Type 0
Power P zero run = Single run
Power P (suc n) run = Joined P (Power P n) run

-- The runs that a term allows. A negation allows the single situations that its test does not allow.
abbrev pub Allowed : (ℕ → ℕ → Bool) → Term → Run → Type 0
Allowed holds (test t) run = (s : ℕ) × (run ≡ single s) × (holds t s ≡ true)
Allowed holds (act a p) run = (s t : ℕ) × (run ≡ one_action s a t)
Allowed holds skip run = Single run
Allowed holds stop run = ⊥
Allowed holds (term.not e) run = (s : ℕ) × (run ≡ single s) × (Allowed holds e (single s) → ⊥)
Allowed holds (choice e f) run = Allowed holds e run ⊎ Allowed holds f run
Allowed holds (chain e f) run = Joined (Allowed holds e) (Allowed holds f) run
Allowed holds (star e) run = (n : ℕ) × Power (Allowed holds e) n run
