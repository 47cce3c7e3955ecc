-- The number, layer and place of each refusal of judge and check.
use Rattle.std.specs.Prelude.{ℕ}
use Rattle.refusals.specs.declared.Layer.TheVariants.{Walk}
use Rattle.refusals.specs.declared.Refusal.{Refusal}
use Rattle.walk.specs.declared.fault.WalkFault.{WalkFault}
use Rattle.walk.specs.declared.fault.WalkFault.TheVariants.{BufferTooShort, TableFull, TableTooLarge, Unlike}

-- A table or list over 2,048 is number 18, a full table 19, unlike flows 20, and a run buffer that is too short 21.
abbrev pub number_of : WalkFault → ℕ
number_of TableTooLarge = 18
number_of TableFull = 19
number_of Unlike = 20
number_of (BufferTooShort wanted) = 21

-- The place is the bytes wanted for a buffer that is too short, and else 0.
abbrev pub place_of : WalkFault → ℕ
place_of TableTooLarge = 0
place_of TableFull = 0
place_of Unlike = 0
place_of (BufferTooShort wanted) = wanted

-- Each is of the layer of the walk.
abbrev pub refusal_of : WalkFault → Refusal
refusal_of fault = record { layer = Walk; number = number_of fault; place = place_of fault }
