-- What lies ahead of a place in a text: its signs from there on, and then the end or a fault.
use Rattle.std.specs.Prelude.{ℕ, zero, suc, ◌-◌, List, length, drop, Some, None, Ok, Err, Option, Result}
use Rattle.signs.specs.Reader.{place_in, text_of}
use Rattle.signs.specs.Signs.{Mark, behind, next_sign}
use Rattle.signs.specs.declared.fault.SignFault.{SignFault}
use Rattle.signs.specs.declared.reader.SignReader.{SignReader}
use Rattle.grammar.specs.Reading.{Ahead, faulty, over, sign}

-- What was read next, and behind a sign what lies ahead of the place behind it.
abbrev pub then_ahead : ℕ → (ℕ → Ahead) → Result (Option Mark) SignFault → Ahead
then_ahead end more (Ok None) = over end
then_ahead end more (Ok (Some m)) = sign m (more (behind m))
then_ahead end more (Err fault) = faulty fault

-- The signs from a place on, where the end is told to stand at `end`. Each sign has a byte at least, so that as much fuel
-- as there are bytes is enough.
abbrev pub ahead_to : ℕ → ℕ → List ℕ → ℕ → Ahead
ahead_to end zero text place = over end
ahead_to end (suc fuel) text place = then_ahead end (ahead_to end fuel text) (next_sign place (drop place text))

-- The same where the end stands at the text's length.
abbrev pub ahead_at : ℕ → List ℕ → ℕ → Ahead
ahead_at fuel text place = ahead_to (length text) fuel text place

-- A whole text.
abbrev pub ahead_in : List ℕ → Ahead
ahead_in text = ahead_at (length text) text 0

-- What lies ahead of a sign reader.
abbrev pub ahead_of : ℕ → SignReader → Ahead
ahead_of end reader = ahead_to end (length (text_of reader) - place_in reader) (text_of reader) (place_in reader)
