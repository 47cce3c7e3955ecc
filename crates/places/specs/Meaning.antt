-- What the flow of a rule means.
use Rattle.std.specs.Prelude.{◌≡◌, [], length, slice_index, slice_index_or}
use Rattle.kat.specs.Places.{Numbered, place_flow}
use Rattle.kat.specs.Terms.{Term}
use Rattle.runs.specs.Flows.{FlowMeaning, Lawful, allows}
use Rattle.runs.specs.Runs.{Run}
use Rattle.sheet.specs.Laid.{LaidOut}
use Rattle.tables.specs.Tables.{SameOnCodes, table_flow, table_lawful}
use Rattle.places.specs.declared.flow.RuleFlow.{RuleFlow}

-- It means the flow that its tables tell.
abbrev pub rule_meaning : RuleFlow → FlowMeaning
rule_meaning x = table_flow x.counts.situations x.counts.actions (λ s. slice_index x.ends s) (λ s p. slice_index (slice_index_or x.follows s []) p) (λ a. slice_index x.owned a)

-- Its counts are within the limits, and a question out of range gives the code back.
pub rule_lawful : (x : RuleFlow) → Lawful (rule_meaning x)
rule_lawful x = table_lawful x.counts.situations x.counts.actions (λ s. slice_index x.ends s) (λ s p. slice_index (slice_index_or x.follows s []) p) (λ a. slice_index x.owned a) x.counts.some x.counts.most x.counts.few

-- The flow of a term's places over what is laid out on a sheet: its situations, where its tests hold, and the actions that are named.
abbrev pub places_on : LaidOut → Term → FlowMeaning
places_on laid e = place_flow laid.meaning.situations (length laid.names.actions) laid.meaning.holds e

-- A flow is that of a term's places: from every code of 64 bits it goes the same way, so that it allows the same runs. Where the places are
-- numbered in the order of the text, a code has a bit for each of them, and the two are the same flow.
pub record IsThePlacesOf (laid : LaidOut) (e : Term) (flow : FlowMeaning) : Type 0 where
  pub on_codes : SameOnCodes flow (places_on laid e)
  pub on_runs : (run : Run) → allows flow run ≡ allows (places_on laid e) run
  pub numbered : Numbered e → flow ≡ places_on laid e
