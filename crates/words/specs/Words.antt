-- The words of a line, what they have to do with its bytes, and what it is to read one.
use Rattle.std.specs.Prelude.{◌≡◌, ℕ, ◌<◌, Bool, true, cond, not, ◌||◌, List, [], ◌∷◌, ◌++◌, length, drop, Some, None, Option, MatchOption, ◌==◌}
use Rattle.std.specs.Option.{option_to_list}
use Rattle.std.specs.List.{prefix_len, AllByRecursion}

-- A blank (32) or a tab (9) parts two words, and nothing else does.
abbrev pub blank : ℕ → Bool
blank b = b == 32 || b == 9

-- Any other byte belongs to its word.
abbrev pub in_word : ℕ → Bool
in_word b = not (blank b)

-- A word in front of others, unless it has no byte.
abbrev pub before : List ℕ → List (List ℕ) → List (List ℕ)
before [] ws = ws
before (b ∷ w) ws = (b ∷ w) ∷ ws

-- The word that the bytes begin with, which has no byte where they begin with a blank, and the words behind it.
abbrev pub words_from : List ℕ → (List ℕ) × (List (List ℕ))
words_from [] = ([], [])
words_from (b ∷ bs) = cond (blank b) ([], before (words_from bs).0 (words_from bs).1) (b ∷ (words_from bs).0, (words_from bs).1)

-- The words of a line.
abbrev pub words_of : List ℕ → List (List ℕ)
words_of bs = before (words_from bs).0 (words_from bs).1

-- Only blanks and tabs.
abbrev pub Blanks : List ℕ → Type 0
Blanks bs = AllByRecursion (λ b. blank b ≡ true) bs

-- No blank and no tab.
abbrev pub Plain : List ℕ → Type 0
Plain bs = AllByRecursion (λ b. in_word b ≡ true) bs

-- A word ends where the bytes behind it begin with a blank, or are none.
abbrev pub Ends : List ℕ → Type 0
Ends [] = Unit {0}
Ends (b ∷ bs) = blank b ≡ true

-- A line begins with a word: there are blanks, or none, then the word, of one or more bytes none of which is a blank, and then the rest, where the
-- word ends.
pub record WordFirst (word line rest : List ℕ) : Type 0 where
  pub gap : List ℕ
  pub whole : line ≡ gap ++ (word ++ rest)
  pub blanks : Blanks gap
  pub full : 0 < length word
  pub plain : Plain word
  pub ends : Ends rest

-- These are the words of the line: it begins with the first, what is behind that has the others, and behind the last there are only blanks.
abbrev pub Parted : List (List ℕ) → List ℕ → Type 0
Parted [] line = Blanks line
Parted (w ∷ ws) line = (rest : List ℕ) × WordFirst w line rest × Parted ws rest

-- What is left of a line past the blanks that it begins with.
abbrev pub past_blanks : List ℕ → List ℕ
past_blanks line = drop (prefix_len blank line) line

-- What is left of a line right behind its first word: the blank that ends the word comes first.
abbrev pub past_word : List ℕ → List ℕ
past_word line = drop (prefix_len in_word (past_blanks line)) (past_blanks line)

-- One reading step: the word read is the first of the line's, and the rest, which begins right behind it, has the others; no word is read just
-- where none is left.
pub record WordRead (line : List ℕ) (word : Option (List ℕ)) (rest : List ℕ) : Type 0 where
  pub words : words_of line ≡ option_to_list word ++ words_of rest
  pub behind : rest ≡ past_word line
  pub cases : MatchOption word ((words_of line ≡ []) × (rest ≡ [])) (λ _. length rest < length line)

-- The text behind a word is what follows the one blank that ends the word; without that blank there is no text.
abbrev pub text_behind : List ℕ → Option (List ℕ)
text_behind [] = None
text_behind (b ∷ bs) = cond (blank b) (Some bs) None
