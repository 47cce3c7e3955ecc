-- What it is for signs to spell a text, said without the reader's steps, and the theorems on it.
use Rattle.std.specs.Prelude.{◌≡◌, ℕ, ◌+◌, ◌≤◌, Bool, true, not, List, [], ◌∷◌, ◌++◌, length, Ok}
use Rattle.std.specs.List.{list_all}
use Rattle.signs.specs.Names.{inner, is_name}
use Rattle.signs.specs.Runs.{blank}
use Rattle.signs.specs.Signs.{Mark, named, skipping, stopping, opening, closing, negating, repeating, following, choosing, bytes_of, stands_at, behind, signs_of}

-- A name sign holds a name; of the other signs every one will do.
abbrev pub well_made : Mark → Bool
well_made (named name place) = is_name name
well_made (skipping place) = true
well_made (stopping place) = true
well_made (opening place) = true
well_made (closing place) = true
well_made (negating place) = true
well_made (repeating place) = true
well_made (following place) = true
well_made (choosing place) = true

-- No byte that could go on with a name comes next.
abbrev pub stops : List ℕ → Bool
stops [] = true
stops (b ∷ bs) = not (inner b)

-- A name, or one of the two words, is as long as can be: what follows it could not go on with it.
abbrev pub as_long_as_can_be : Mark → List ℕ → Bool
as_long_as_can_be (named name place) rest = stops rest
as_long_as_can_be (skipping place) rest = stops rest
as_long_as_can_be (stopping place) rest = stops rest
as_long_as_can_be (opening place) rest = true
as_long_as_can_be (closing place) rest = true
as_long_as_can_be (negating place) rest = true
as_long_as_can_be (repeating place) rest = true
as_long_as_can_be (following place) rest = true
as_long_as_can_be (choosing place) rest = true

-- The text, which stands from `place` on, is some blanks, then the bytes of the sign, then a rest of which more is said.
pub record Begins (place : ℕ) (text : List ℕ) (m : Mark) (More : List ℕ → Type 0) : Type 0 where
  pub gap : List ℕ
  pub rest : List ℕ
  pub blanks : list_all blank gap ≡ true
  pub joined : gap ++ (bytes_of m ++ rest) ≡ text
  pub stands : stands_at m ≡ place + length gap
  pub made : well_made m ≡ true
  pub whole : as_long_as_can_be m rest ≡ true
  pub more : More rest

-- The signs spell the text that stands from `place` on: joined, with blanks in front of each and behind the last, they
-- give it back, each stands where it says, and no name could be longer.
abbrev pub Spells : ℕ → List ℕ → List Mark → Type 0
Spells place text [] = list_all blank text ≡ true
Spells place text (m ∷ ms) = Begins place text m (λ rest. Spells (behind m) rest ms)

-- The signs that are read from a text spell it: joined, with the blanks between them, they give it back.
abbrev pub SignsGiveTheTextBack : List ℕ → Type 0
SignsGiveTheTextBack text = (ms : List Mark) → signs_of text ≡ Ok ms → Spells 0 text ms

-- The signs that spell a text of at most 4,096 bytes are read from it.
abbrev pub SpellingSignsAreRead : List ℕ → Type 0
SpellingSignsAreRead text = (ms : List Mark) → length text ≤ 4096 → Spells 0 text ms → signs_of text ≡ Ok ms

-- Two lists of signs that spell the same text are equal.
abbrev pub OneListOfSigns : List ℕ → Type 0
OneListOfSigns text = (ms ns : List Mark) → Spells 0 text ms → Spells 0 text ns → ms ≡ ns
