-- A run as a line of text: its actions by name, and its situations by their numbers or by the tests that hold there.
use Rattle.std.specs.Prelude.{ℕ, suc, Bool, true, false, cond, not, List, [], ◌∷◌, ◌++◌, codes, decimal, slice_index_or}
use Rattle.sheet.specs.Laid.{LaidOut}

-- The name of a test that holds, with `&` in front of it but for the first.
abbrev pub test_text : Bool → List ℕ → List ℕ
test_text first name = cond first name (codes "&" ++ name)

-- The names of the tests that hold, of those from number t on.
abbrev pub holding : (ℕ → Bool) → Bool → ℕ → List (List ℕ) → List ℕ
holding holds first t [] = cond first (codes "none") []
holding holds first t (name ∷ names) = cond (holds t) (test_text first name ++ holding holds false (suc t) names) (holding holds first (suc t) names)

-- A situation in words: the named tests that hold there, joined by `&`, or `none`.
abbrev pub in_words : LaidOut → ℕ → List ℕ
in_words laid s = holding (λ t. laid.meaning.holds t s) true 0 laid.names.tests

-- A situation in words, or by its number.
abbrev pub situation_text : LaidOut → Bool → ℕ → List ℕ
situation_text laid words s = cond words (in_words laid s) (decimal s)

-- An action by its name.
abbrev pub action_text : LaidOut → ℕ → List ℕ
action_text laid a = slice_index_or laid.names.actions a []

-- The bytes of a run, situations and actions in turn, each behind a blank.
abbrev pub turns : LaidOut → Bool → Bool → List ℕ → List ℕ
turns laid words situation [] = []
turns laid words situation (b ∷ bytes) = codes " " ++ (cond situation (situation_text laid words b) (action_text laid b) ++ turns laid words (not situation) bytes)

-- The line of a run.
abbrev pub run_line : LaidOut → Bool → List ℕ → List ℕ
run_line laid words bytes = cond words (codes "  in words") (codes "  run") ++ (turns laid words true bytes ++ codes "\n")
