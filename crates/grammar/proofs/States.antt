-- Short forms for the lemmas: of states, of a unit with what lies behind it, and of what the builders do next.
use Rattle.std.proofs.Common.{ℕ, Result}
use Rattle.kat.specs.Terms.{Term}
use Rattle.grammar.specs.Reading.{Ahead, Built, Grown, Machine, Pulled, following', stars_from, unit_at, wanting}
use Rattle.grammar.specs.Theorems.{Meaning}
use Rattle.grammar.specs.declared.fault.RuleFault.{RuleFault}

-- A unit is wanted.
abbrev pub ready : ℕ → ℕ → ℕ → Machine
ready brackets signs actions = record { wants = wanting; brackets = brackets; signs = signs; actions = actions }

-- A unit was read.
abbrev pub behind : ℕ → ℕ → ℕ → Machine
behind brackets signs actions = record { wants = following'; brackets = brackets; signs = signs; actions = actions }

-- What builds units, and what builds steps, chains or choices.
abbrev pub Units : Type 0
Units = Ahead → Machine → Result Built RuleFault

abbrev pub Parts : Type 0
Parts = Ahead → Machine → Result Grown RuleFault

abbrev pub built : Term → Ahead → Machine → Built
built e ahead m = record { term = e; ahead = ahead; machine = m }

-- The unit that begins with a sign, once that was pulled.
abbrev pub unit_behind : Meaning → Units → Parts → Pulled → Result Built RuleFault
unit_behind means inner whole p = unit_at means inner whole p.mark p.ahead p.machine

-- The stars behind a unit.
abbrev pub stars_behind : Meaning → ℕ → Built → Result Grown RuleFault
stars_behind means levels b = stars_from means levels b.ahead b.term b.machine
