-- The lines of a text, what they have to do with its bytes, and what it is to read one.
use Rattle.std.specs.Prelude.{◌≡◌, ℕ, ◌<◌, Bool, true, cond, not, List, [], ◌∷◌, ◌++◌, length, Option, MatchOption, ◌==◌}
use Rattle.std.specs.Option.{option_to_list}
use Rattle.std.specs.List.{AllByRecursion}

-- A byte belongs to its line unless it is the line feed (10) that ends the line.
abbrev pub in_line : ℕ → Bool
in_line b = not (b == 10)

-- A byte in front of some lines begins the first of them; with no line behind it, it is a line.
abbrev pub begun : ℕ → List (List ℕ) → List (List ℕ)
begun b [] = (b ∷ []) ∷ []
begun b (l ∷ ls) = (b ∷ l) ∷ ls

-- Each line feed ends a line, and the bytes behind the last line feed, if there are any, are a line too.
abbrev pub lines_of : List ℕ → List (List ℕ)
lines_of [] = []
lines_of (b ∷ bs) = cond (in_line b) (begun b (lines_of bs)) ([] ∷ lines_of bs)

-- Lines with a line feed behind each.
abbrev pub fed : List (List ℕ) → List ℕ
fed [] = []
fed (l ∷ ls) = l ++ (10 ∷ fed ls)

-- A text with a line feed put behind it where its last line lacks one.
abbrev pub completed : List ℕ → List ℕ
completed [] = []
completed (b ∷ []) = cond (in_line b) (b ∷ 10 ∷ []) (b ∷ [])
completed (b ∷ c ∷ cs) = b ∷ completed (c ∷ cs)

-- A line with no line feed in it.
abbrev pub OneLine : List ℕ → Type 0
OneLine line = AllByRecursion (λ b. in_line b ≡ true) line

-- These are the lines of the text: none has a line feed in it, and with a line feed behind each they are the text again.
pub record Lined (lines : List (List ℕ)) (text : List ℕ) : Type 0 where
  pub single : AllByRecursion OneLine lines
  pub whole : fed lines ≡ completed text

-- One reading step: the line read is the first of the text's, and the rest, which is shorter, has the others; no line is read just where nothing
-- is left.
pub record LineRead (text : List ℕ) (line : Option (List ℕ)) (rest : List ℕ) : Type 0 where
  pub lines : lines_of text ≡ option_to_list line ++ lines_of rest
  pub cases : MatchOption line ((text ≡ []) × (rest ≡ [])) (λ _. length rest < length text)
