-- The number, layer and place of each refusal of naming.
use Rattle.std.specs.Prelude.{ℕ}
use Rattle.refusals.specs.declared.Layer.TheVariants.{Names}
use Rattle.refusals.specs.declared.Refusal.{Refusal}
use Rattle.sheet.specs.declared.fault.NameFault.{NameFault}
use Rattle.sheet.specs.declared.fault.NameFault.TheVariants.{NotAName, AlreadyNamed, AllNamed}

-- Not a name is number 2, a name that is taken 3, and no test or action left to name 4.
abbrev pub number_of : NameFault → ℕ
number_of NotAName = 2
number_of AlreadyNamed = 3
number_of AllNamed = 4

-- Each is of the layer of names, at place 0.
abbrev pub refusal_of : NameFault → Refusal
refusal_of fault = record { layer = Names; number = number_of fault; place = 0 }
