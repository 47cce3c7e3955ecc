-- The refusals of the sign reader, each with its values.
use Rattle.std.specs.Prelude.{ℕ, List, take, drop}
use Rattle.std.specs.List.{prefix_len}
use Rattle.refusals.specs.declared.Layer.TheVariants.{Signs}
use Rattle.refusals.specs.declared.Refusal.{Refusal}
use Rattle.signs.specs.Names.{inner}
use Rattle.signs.specs.declared.fault.SignFault.{SignFault}
use Rattle.signs.specs.declared.fault.SignFault.TheVariants.{TextTooLong, StrayByte, NameTooLong}

-- The number of each refusal.
abbrev pub number_of : SignFault → ℕ
number_of TextTooLong = 5
number_of (StrayByte place) = 6
number_of (NameTooLong place) = 7

-- The place of each refusal: the end of what is allowed, or the first byte of what is faulty.
abbrev pub place_of : SignFault → ℕ
place_of TextTooLong = 4096
place_of (StrayByte place) = place
place_of (NameTooLong place) = place

-- Each refusal as it is told.
abbrev pub refusal_of : SignFault → Refusal
refusal_of fault = record { layer = Signs; number = number_of fault; place = place_of fault }

-- How many bytes of the text are faulty: none, the stray byte, or the name as long as it is.
abbrev pub extent_of : List ℕ → SignFault → ℕ
extent_of text TextTooLong = 0
extent_of text (StrayByte place) = 1
extent_of text (NameTooLong place) = prefix_len inner (drop place text)

-- The faulty part of the text: that many bytes from the place on.
abbrev pub faulty_part : List ℕ → SignFault → List ℕ
faulty_part text fault = take (extent_of text fault) (drop (place_of fault) text)
