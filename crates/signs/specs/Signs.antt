-- The signs of a text, by their bytes and places.
use Rattle.std.specs.Prelude.{ℕ, ◌+◌, Bool, true, false, cond, ◌&&◌, List, [], ◌∷◌, length, Some, None, Ok, Err, codes, Option, Result, ◌==◌, nat_lt}
use Rattle.std.specs.Str.{bytes_eq}
use Rattle.signs.specs.declared.fault.SignFault.{SignFault}
use Rattle.signs.specs.declared.fault.SignFault.TheVariants.{TextTooLong, StrayByte, NameTooLong}
use Rattle.signs.specs.Names.{letter, inner}
use Rattle.signs.specs.Runs.{blank, inner_run}

-- A sign as the text has it: a name's bytes and its place, or the place of another sign.
pub data Mark : Type 0 where
  named : List ℕ → ℕ → Mark
  skipping stopping opening closing negating repeating following choosing : ℕ → Mark

-- The bytes that a sign is written with.
abbrev pub bytes_of : Mark → List ℕ
bytes_of (named name place) = name
bytes_of (skipping place) = codes "skip"
bytes_of (stopping place) = codes "stop"
bytes_of (opening place) = codes "("
bytes_of (closing place) = codes ")"
bytes_of (negating place) = codes "!"
bytes_of (repeating place) = codes "*"
bytes_of (following place) = codes ";"
bytes_of (choosing place) = codes "|"

-- The place of a sign's first byte.
abbrev pub stands_at : Mark → ℕ
stands_at (named name place) = place
stands_at (skipping place) = place
stands_at (stopping place) = place
stands_at (opening place) = place
stands_at (closing place) = place
stands_at (negating place) = place
stands_at (repeating place) = place
stands_at (following place) = place
stands_at (choosing place) = place

-- The place right behind a sign.
abbrev pub behind : Mark → ℕ
behind m = stands_at m + length (bytes_of m)

-- Bytes that are spelled as a name are one of the two words, or else a name.
abbrev pub word_of : List ℕ → ℕ → Mark
word_of word place =
    cond (bytes_eq word (codes "skip")) (skipping place)
    (cond (bytes_eq word (codes "stop")) (stopping place)
    (named word place))

-- A word has at most 12 bytes.
abbrev pub word_at : ℕ → List ℕ → Result Mark SignFault
word_at place word = cond (nat_lt 12 (length word)) (Err (NameTooLong place)) (Ok (word_of word place))

-- The sign whose first byte is `b`, at `place`, with the bytes `bs` behind it. A word goes on as long as it can.
abbrev pub sign_at : ℕ → ℕ → List ℕ → Result Mark SignFault
sign_at place b bs =
    cond (b == 40) (Ok (opening place))
    (cond (b == 41) (Ok (closing place))
    (cond (b == 33) (Ok (negating place))
    (cond (b == 42) (Ok (repeating place))
    (cond (b == 59) (Ok (following place))
    (cond (b == 124) (Ok (choosing place))
    (cond (letter b) (word_at place (b ∷ inner_run bs))
    (Err (StrayByte place))))))))

-- A sign that was found, or the fault in its stead.
abbrev pub found : Result Mark SignFault → Result (Option Mark) SignFault
found (Ok m) = Ok (Some m)
found (Err e) = Err e

-- The next sign of the bytes that stand from `place` on: blanks are passed over, and at the end there is none.
abbrev pub next_sign : ℕ → List ℕ → Result (Option Mark) SignFault
next_sign place [] = Ok None
next_sign place (b ∷ bs) = cond (blank b) (next_sign (place + 1) bs) (found (sign_at place b bs))

-- A sign, then the signs behind it; of several faults the first from the left counts.
abbrev pub and_then : Result Mark SignFault → Result (List Mark) SignFault → Result (List Mark) SignFault
and_then (Ok m) (Ok ms) = Ok (m ∷ ms)
and_then (Ok m) (Err e) = Err e
and_then (Err e) others = Err e

-- The signs of the bytes that stand from `place` on. A byte that goes on with the name in front of it begins no sign, and
-- `inside` says whether there is such a name; nor does a blank. Any other byte begins a sign.
abbrev pub signs_from : Bool → ℕ → List ℕ → Result (List Mark) SignFault
signs_from inside place [] = Ok []
signs_from inside place (b ∷ bs) =
    cond (inside && inner b) (signs_from true (place + 1) bs)
    (cond (blank b) (signs_from false (place + 1) bs)
    (and_then (sign_at place b bs) (signs_from (inner b) (place + 1) bs)))

-- The signs of a text, every one in order until the end, or the first fault. A text has at most 4,096 bytes.
abbrev pub signs_of : List ℕ → Result (List Mark) SignFault
signs_of text = cond (nat_lt 4096 (length text)) (Err TextTooLong) (signs_from false 0 text)
