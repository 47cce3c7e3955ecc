-- How the refusals of the rule reader are told.
use Rattle.signs.specs.Faults as sign
use Rattle.refusals.specs.declared.Layer.TheVariants.{Rule, Book}
use Rattle.refusals.specs.declared.Refusal.{Refusal}
use Rattle.grammar.specs.declared.fault.RuleFault.{RuleFault}
use Rattle.grammar.specs.declared.fault.RuleFault.TheVariants.{Sign, TooMany, Unfit, UnknownName, TooDeep, NotATest, NoRoom}

-- Each refusal by its layer, its number and its place: 5 to 7 of the signs, 8 to 12 of the rule, and 17 for want of nodes.
abbrev pub refusal_of : RuleFault → Refusal
refusal_of (Sign fault) = sign.refusal_of fault
refusal_of (TooMany place) = record { layer = Rule; number = 8; place = place }
refusal_of (Unfit place) = record { layer = Rule; number = 9; place = place }
refusal_of (UnknownName place) = record { layer = Rule; number = 10; place = place }
refusal_of (TooDeep place) = record { layer = Rule; number = 11; place = place }
refusal_of (NotATest place) = record { layer = Rule; number = 12; place = place }
refusal_of NoRoom = record { layer = Book; number = 17; place = 0 }
