-- What the faults of a text are, place by place, said without the reader's steps, and the theorems on refusals.
use Rattle.std.specs.Prelude.{◌≡◌, ℕ, zero, suc, ◌<◌, ◌≤◌, Bool, true, false, cond, not, ◌&&◌, ◌||◌, ◌↔◌, List, length, drop, Ok, Err, ◌==◌, nat_lt, slice_index}
use Rattle.std.specs.List.{prefix_len}
use Rattle.signs.specs.declared.fault.SignFault.TheVariants.{TextTooLong, StrayByte, NameTooLong}
use Rattle.signs.specs.Names.{inner, letter}
use Rattle.signs.specs.Runs.{blank}
use Rattle.signs.specs.Spelling.{Spells}
use Rattle.signs.specs.Signs.{Mark, signs_of}

-- The byte right in front of a place could stand in a name. Up to the first fault of a text it then does stand in one.
abbrev pub inner_in_front : List ℕ → ℕ → Bool
inner_in_front text zero = false
inner_in_front text (suc place) = inner (slice_index text place)

-- The signs that are one byte by itself: ( ) ! * ; |
abbrev pub single : ℕ → Bool
single b = b == 40 || (b == 41 || (b == 33 || (b == 42 || (b == 59 || b == 124))))

-- A byte is stray, and so belongs to no sign, if it is no blank, no sign by itself, and neither goes on with a name, where
-- one stands right in front of it, nor else begins one.
abbrev pub stray : Bool → ℕ → Bool
stray inside b = not (blank b) && (not (single b) && cond inside (not (inner b)) (not (letter b)))

-- A stray byte stands at the place.
abbrev pub stray_at : List ℕ → ℕ → Bool
stray_at text place = nat_lt place (length text) && stray (inner_in_front text place) (slice_index text place)

-- A name of more than 12 bytes begins at the place: a letter that goes on with no name, and the bytes behind it that do.
abbrev pub long_at : List ℕ → ℕ → Bool
long_at text place = not (inner_in_front text place) && (letter (slice_index text place) && nat_lt 12 (prefix_len inner (drop place text)))

-- Nothing in front of the place is at fault.
abbrev pub SoundBefore : List ℕ → ℕ → Type 0
SoundBefore text place = (k : ℕ) → k < place → (stray_at text k ≡ false) × (long_at text k ≡ false)

-- A text of at most 4,096 bytes with no stray byte and no name over 12 bytes is spelled by exactly one list of signs, and
-- that list is read from it.
abbrev pub SoundTextHasItsSigns : List ℕ → Type 0
SoundTextHasItsSigns text =
    length text ≤ 4096
    → SoundBefore text (length text)
    → (ms : List Mark) × (signs_of text ≡ Ok ms) × Spells 0 text ms × ((ns : List Mark) → Spells 0 text ns → ns ≡ ms)

-- A text is refused for its length exactly if it has more than 4,096 bytes, and otherwise exactly for the first fault from
-- the left, at its place.
pub record RefusedAtTheFirstFault (text : List ℕ) : Type 0 where
  pub length_alone : (signs_of text ≡ Err TextTooLong) ↔ (4096 < length text)
  pub stray_byte : (place : ℕ) → (signs_of text ≡ Err (StrayByte place)) ↔ ((length text ≤ 4096) × (stray_at text place ≡ true) × SoundBefore text place)
  pub long_name : (place : ℕ) → (signs_of text ≡ Err (NameTooLong place)) ↔ ((length text ≤ 4096) × (long_at text place ≡ true) × SoundBefore text place)
