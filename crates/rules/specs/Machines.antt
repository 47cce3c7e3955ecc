-- The machine of the code, seen as that of the grammar.
use Rattle.std.specs.Prelude.{◌≡◌, ℕ, cond, Ok, Err, Result}
use Rattle.grammar.specs.Reading as reading
use Rattle.grammar.specs.declared.fault.RuleFault.{RuleFault}
use Rattle.grammar.specs.declared.fault.RuleFault.TheVariants.{Unfit}
use Rattle.rules.specs.declared.machine.Machine.{Machine}
use Rattle.rules.specs.declared.machine.Wants.{Wants}
use Rattle.rules.specs.declared.machine.Wants.TheVariants.{Wanting, Following}

-- What the reader wants.
abbrev pub wants_of : Wants → reading.Wants
wants_of Wanting = reading.wanting
wants_of Following = reading.following'

-- The state by what is wanted and counted.
abbrev pub machine_of : Machine → reading.Machine
machine_of m = record { wants = wants_of m.wants; brackets = m.brackets; signs = m.signs; actions = m.actions }

-- What became of a sign: the state behind it, or the refusal.
abbrev pub outcome : Result (Unit {0}) RuleFault → Machine → Result reading.Machine RuleFault
outcome (Ok done) m = Ok (machine_of m)
outcome (Err fault) m = Err fault

-- A refusal leaves the state as it was.
abbrev pub KeptIfRefused : Result (Unit {0}) RuleFault → Machine → Machine → Type 0
KeptIfRefused (Ok done) before after = Unit {0}
KeptIfRefused (Err fault) before after = machine_of after ≡ machine_of before

-- What becomes of the end at a place.
abbrev pub end_outcome : ℕ → reading.Machine → Result (Unit {0}) RuleFault
end_outcome place m = cond (reading.end_fits m) (Ok tt) (Err (Unfit place))
