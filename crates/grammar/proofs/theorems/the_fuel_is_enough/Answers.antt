-- The fuel is enough: each part leaves fewer signs ahead.
use Rattle.grammar.proofs.Fuel.{fuel_is_enough}
use Rattle.grammar.proofs.theorems.the_fuel_is_enough.Goals as goal

pub returns : goal.returns
returns c = record { fuel_is_enough = fuel_is_enough }
