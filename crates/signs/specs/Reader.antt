-- What the sign reader gives and holds, seen by bytes and places.
use Rattle.std.specs.Prelude.{◌≡◌, ℕ, ◌<◌, ◌≤◌, false, List, [], length, drop, Some, None, Ok, Err, Option, Result}
use Rattle.signs.specs.declared.sign.Sign.{Sign}
use Rattle.signs.specs.declared.sign.Sign.TheVariants.{Name, Skip, Stop, Open, Close, Not, Star, Then, Or}
use Rattle.signs.specs.declared.fault.SignFault.{SignFault}
use Rattle.signs.specs.declared.fault.SignFault.TheVariants.{TextTooLong}
use Rattle.signs.specs.declared.reader.SignReader.{SignReader}
use Rattle.signs.specs.Signs.{Mark, named, skipping, stopping, opening, closing, negating, repeating, following, choosing, behind, next_sign, and_then, signs_from}

-- A sign of the code by its bytes and its place.
abbrev pub mark_of : Sign → Mark
mark_of (Name name place) = named name.now place
mark_of (Skip place) = skipping place
mark_of (Stop place) = stopping place
mark_of (Open place) = opening place
mark_of (Close place) = closing place
mark_of (Not place) = negating place
mark_of (Star place) = repeating place
mark_of (Then place) = following place
mark_of (Or place) = choosing place

-- What was read, seen so.
abbrev pub marked : Result (Option Sign) SignFault → Result (Option Mark) SignFault
marked (Ok None) = Ok None
marked (Ok (Some sign)) = Ok (Some (mark_of sign))
marked (Err fault) = Err fault

-- A sign and the place behind it, seen so.
abbrev pub marked_pair : Result (Sign × ℕ) SignFault → Result (Mark × ℕ) SignFault
marked_pair (Ok pair) = Ok (mark_of pair.0, pair.1)
marked_pair (Err fault) = Err fault

-- A sign with the place behind it.
abbrev pub with_behind : Result Mark SignFault → Result (Mark × ℕ) SignFault
with_behind (Ok m) = Ok (m, behind m)
with_behind (Err fault) = Err fault

-- The text that a reader reads.
abbrev pub text_of : SignReader → List ℕ
text_of reader = reader.text.now

-- The place that a reader stands at.
abbrev pub place_in : SignReader → ℕ
place_in reader = reader.at

-- The next sign of a reader's text from its place on.
abbrev pub next_of : SignReader → Result (Option Mark) SignFault
next_of reader = next_sign (place_in reader) (drop (place_in reader) (text_of reader))

-- All signs of a reader's text from its place on.
abbrev pub signs_ahead : SignReader → Result (List Mark) SignFault
signs_ahead reader = signs_from false (place_in reader) (drop (place_in reader) (text_of reader))

-- A reader that gave a sign stands behind it; at the end and at a fault it stays.
abbrev pub place_after : ℕ → Result (Option Mark) SignFault → ℕ
place_after place (Ok None) = place
place_after place (Ok (Some m)) = behind m
place_after place (Err fault) = place

-- What was read, and then the signs ahead of the reader, are a list of signs.
abbrev pub followed_by : Result (Option Mark) SignFault → Result (List Mark) SignFault → Result (List Mark) SignFault
followed_by (Ok None) ahead = Ok []
followed_by (Ok (Some m)) ahead = and_then (Ok m) ahead
followed_by (Err fault) ahead = Err fault

-- With a sign a reader of a text of so many bytes moves on, and stays within the text.
abbrev pub MovesOn : ℕ → ℕ → ℕ → Result (Option Sign) SignFault → Type 0
MovesOn bytes before after (Ok None) = Unit {0}
MovesOn bytes before after (Ok (Some sign)) = (before < after) × (after ≤ bytes)
MovesOn bytes before after (Err fault) = Unit {0}

-- A text of at most 4,096 bytes gets a reader that stands at its first byte, and a longer one is refused.
abbrev pub Begun : List ℕ → Result SignReader SignFault → Type 0
Begun text (Ok reader) = (length text ≤ 4096) × (text_of reader ≡ text) × (place_in reader ≡ 0)
Begun text (Err fault) = (4096 < length text) × (fault ≡ TextTooLong)

-- The signs that a new reader has ahead, or its refusal.
abbrev pub signs_to_come : Result SignReader SignFault → Result (List Mark) SignFault
signs_to_come (Ok reader) = signs_ahead reader
signs_to_come (Err fault) = Err fault
