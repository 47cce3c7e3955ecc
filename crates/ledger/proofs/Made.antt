-- The flows that a granted call keeps allow exactly the runs of what they were filed from.
use Rattle.std.proofs.Common.{◌≡◌, ℕ, true, List, length, None, Ok, refl, subst}
use Rattle.charts.proofs.RunsAlong.{runs_along}
use Rattle.charts.specs.Limits.{chart_fault, unless}
use Rattle.charts.specs.Paths.{AllowsRunsAlong}
use Rattle.charts.specs.declared.line.Line.{Line}
use Rattle.grammar.proofs.Numbering.{rule_is_numbered}
use Rattle.kat.proofs.PlaceRuns.{places_allow_the_runs}
use Rattle.kat.specs.Algebra.{Allowed}
use Rattle.kat.specs.Places.{place_flow}
use Rattle.kat.specs.Terms.{Term}
use Rattle.places.specs.Meaning.{places_on}
use Rattle.places.specs.Reading.{means_on, text_on}
use Rattle.rules.proofs.GrantedTexts.{granted_exactly}
use Rattle.runs.specs.Flows.{FlowMeaning, Lawful, allows}
use Rattle.runs.specs.Runs.{Run}
use Rattle.sheet.specs.Laid.{LaidOut}
use Rattle.ledger.specs.Ledgers.{flow_of, of_chart, of_rule}
use Rattle.ledger.specs.Sources.{InRange, LawfulSheet, Source, SourceAllows, a_chart, a_text}
use Rattle.ledger.proofs.LawfulFlows.{charts_are_lawful, places_are_lawful}

-- A flow is made from a source: it is lawful, has the situations and the actions of the sheet, and allows exactly the runs that the source allows.
pub record Made (laid : LaidOut) (flow : FlowMeaning) (source : Source) : Type 0 where
  pub lawful : Lawful flow
  pub of_the_sheet : flow.situations ≡ laid.meaning.situations
  pub of_the_names : flow.actions ≡ length laid.names.actions
  pub no_more : (run : Run) → InRange laid run → allows flow run ≡ true → SourceAllows laid source run
  pub no_less : (run : Run) → InRange laid run → SourceAllows laid source run → allows flow run ≡ true

-- The situations of the flow of a term's places are those of the sheet,
places_situations : (laid : LaidOut) (e : Term) → (places_on laid e).situations ≡ laid.meaning.situations
unfolding place_flow
places_situations laid e = refl

-- and its actions are those that are named.
places_actions : (laid : LaidOut) (e : Term) → (places_on laid e).actions ≡ length laid.names.actions
unfolding place_flow
places_actions laid e = refl

-- The flow of a text that was read is made from the text.
pub made_from_text : (laid : LaidOut) → LawfulSheet laid → (text : List ℕ) (e : Term) → text_on laid text ≡ Ok e → Made laid (flow_of laid (of_rule e)) (a_text text)
made_from_text laid lawful text e is =
    let granted = granted_exactly (means_on laid) text in
    let rule = granted.granted_is_a_rule e is in
    let exactly = places_allow_the_runs laid.meaning.situations (length laid.names.actions) laid.meaning.holds e
    (rule_is_numbered (means_on laid) rule.0 e rule.2) in
    record {
      lawful = places_are_lawful laid lawful e;
      of_the_sheet = places_situations laid e;
      of_the_names = places_actions laid e;
      no_more = λ run within yes. (rule.0, e, rule.1, rule.2, (exactly run within).0 yes);
      no_less = λ run within (signs, f, read, derived, allowed).
          let also : text_on laid text ≡ Ok f = granted.rule_is_granted signs f read derived in
          let same : f ≡ e = cc in
          (exactly run within).1 (subst (λ x. Allowed laid.meaning.holds x run) same allowed);
    }

-- The flow of a chart without a fault is made from the chart.
pub made_from_chart : (laid : LaidOut) → LawfulSheet laid → (states : ℕ) (lines : List Line)
    → chart_fault laid.meaning.situations (length laid.names.actions) states lines ≡ None → Made laid (flow_of laid (of_chart states lines)) (a_chart states lines)
made_from_chart laid lawful states lines none =
    let n = laid.meaning.situations in
    let k = length laid.names.actions in
    let exactly = subst (λ fault. AllowsRunsAlong n k lines (unless fault (flow_of laid (of_chart states lines)))) none (runs_along n k states lines) in
    record {
      lawful = charts_are_lawful laid lawful states lines none;
      of_the_sheet = refl;
      of_the_names = refl;
      no_more = λ run within yes. (exactly run within).0 yes;
      no_less = λ run within along. (exactly run within).1 along;
    }
