-- What a text is on a sheet: a term, the runs that it allows, and a flow.
use Prim.Native.String.{String}
use Rattle.std.specs.Prelude.{Ok, Err, codes, Result}
use Rattle.grammar.specs.declared.fault.RuleFault.{RuleFault}
use Rattle.kat.specs.Algebra.{Allowed}
use Rattle.kat.specs.Terms.{Term, stop}
use Rattle.places.specs.Meaning.{places_on}
use Rattle.places.specs.Reading.{text_on}
use Rattle.runs.specs.Flows.{FlowMeaning}
use Rattle.runs.specs.Runs.{Run}
use Rattle.sheet.specs.Laid.{LaidOut}

-- The term that a text reads to, or its refusal.
abbrev pub term_of : LaidOut → String → Result Term RuleFault
term_of laid text = text_on laid (codes text)

-- A text allows the runs that its term allows, tests holding where the sheet's vocabulary says. A text that is refused allows none.
abbrev pub AllowedBy : LaidOut → Result Term RuleFault → Run → Type 0
AllowedBy laid (Ok e) run = Allowed laid.meaning.holds e run
AllowedBy laid (Err fault) run = ⊥

abbrev pub TextAllows : LaidOut → String → Run → Type 0
TextAllows laid text run = AllowedBy laid (term_of laid text) run

-- The flow of a text is that of the places of its term. A text that is refused gets that of `stop`, so that there is one for every text.
abbrev pub flow_by : LaidOut → Result Term RuleFault → FlowMeaning
flow_by laid (Ok e) = places_on laid e
flow_by laid (Err fault) = places_on laid stop

abbrev pub flow_of : LaidOut → String → FlowMeaning
flow_of laid text = flow_by laid (term_of laid text)
