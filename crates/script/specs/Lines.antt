-- What the words of a line ask for.
use Rattle.std.specs.Prelude.{ℕ, Bool, true, false, cond, List, [], ◌∷◌, Some, None, codes, Option, ◌==◌, slice_index}
use Rattle.std.specs.Str.{bytes_eq}
use Rattle.words.specs.Number.{number_of}
use Rattle.script.specs.declared.command.Part.{Part}
use Rattle.script.specs.declared.command.Part.TheVariants.{Flags, Scale}
use Rattle.script.specs.declared.keyword.Keyword.{Keyword}
use Rattle.script.specs.declared.keyword.Keyword.TheVariants.{Vocabulary, Test, Action, Open, Read}

-- The words that a line can begin with.
abbrev pub keyword_of : List ℕ → Option Keyword
keyword_of word =
    cond (bytes_eq word (codes "vocabulary")) (Some Vocabulary)
    (cond (bytes_eq word (codes "test")) (Some Test)
    (cond (bytes_eq word (codes "action")) (Some Action)
    (cond (bytes_eq word (codes "open")) (Some Open)
    (cond (bytes_eq word (codes "read")) (Some Read) None))))

-- The kinds of vocabulary that are made of a number.
abbrev pub kind_of : List ℕ → ℕ → Option Part
kind_of kind n = cond (bytes_eq kind (codes "flags")) (Some (Flags n)) (cond (bytes_eq kind (codes "scale")) (Some (Scale n)) None)

-- A kind with a word that is a number is a part of a vocabulary.
abbrev pub part_from : List ℕ → Option ℕ → Option Part
part_from kind None = None
part_from kind (Some n) = kind_of kind n

abbrev pub part_of : List ℕ → List ℕ → Option Part
part_of kind number = part_from kind (number_of number)

-- One part in front of others.
abbrev pub and_then : Option Part → Option (List Part) → Option (List Part)
and_then None parts = None
and_then (Some part) None = None
and_then (Some part) (Some parts) = Some (part ∷ parts)

-- The words of a vocabulary are parts, of two words each.
abbrev pub parts_of : List (List ℕ) → Option (List Part)
parts_of [] = Some []
parts_of (kind ∷ []) = None
parts_of (kind ∷ number ∷ words) = and_then (part_of kind number) (parts_of words)

-- The one word of a list of one.
abbrev pub only_word : List (List ℕ) → Option (List ℕ)
only_word [] = None
only_word (word ∷ []) = Some word
only_word (word ∷ other ∷ words) = None

-- A line whose first word begins with `#` is a comment.
abbrev pub is_comment : List ℕ → Bool
is_comment word = slice_index word 0 == 35

-- There is no word.
abbrev pub is_nil : List (List ℕ) → Bool
is_nil [] = true
is_nil (word ∷ words) = false
