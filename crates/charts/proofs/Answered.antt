-- What is answered, by the limits and by the first line beyond.
use Rattle.std.proofs.Common.{◌≡◌, ℕ, ◌≤◌, List, length, Some, None, Ok, Err, Option, Result, sym, ap, ◌∙◌}
use Rattle.std.proofs.lemmas.Bool.{and_from, le-leb, cond-true}
use Rattle.std.specs.Option.{option_map}
use Rattle.runs.specs.Flows.{FlowMeaning}
use Rattle.charts.specs.Charts.{chart_meaning}
use Rattle.charts.specs.Limits.{within_limits, first_beyond, unless, chart_of}
use Rattle.charts.specs.declared.line.Line.{Line}
use Rattle.charts.specs.declared.fault.ChartFault.{ChartFault}
use Rattle.charts.specs.declared.fault.ChartFault.TheVariants.{BeyondLimits, LineBeyond}

-- Within the limits the answer is by the lines.
by_lines : (n k states : ℕ) (lines : List Line) (beyond : Option ℕ) → 1 ≤ states → states ≤ 255 → length lines ≤ 256 → first_beyond n k states 0 lines ≡ beyond → chart_of n k states lines ≡ unless (option_map LineBeyond beyond) (chart_meaning n k states lines)
by_lines n k states lines beyond some few short is =
    ap (λ o. unless o (chart_meaning n k states lines))
    (cond-true (within_limits states lines) (option_map LineBeyond (first_beyond n k states 0 lines)) (Some BeyondLimits) (and_from _ _ (le-leb _ _ some) (and_from _ _ (le-leb _ _ few) (le-leb _ _ short)))
    ∙ ap (option_map LineBeyond) is)

-- A line beyond is told.
pub refused : (n k states : ℕ) (lines : List Line) (place : ℕ) → 1 ≤ states → states ≤ 255 → length lines ≤ 256 → first_beyond n k states 0 lines ≡ Some place → ◌≡◌ {A = Result FlowMeaning ChartFault} (Err (LineBeyond place)) (chart_of n k states lines)
refused n k states lines place some few short is = sym (by_lines n k states lines (Some place) some few short is)

-- With none beyond, what means the chart is granted.
pub granted : (n k states : ℕ) (lines : List Line) (meaning : FlowMeaning) → 1 ≤ states → states ≤ 255 → length lines ≤ 256 → first_beyond n k states 0 lines ≡ None → meaning ≡ chart_meaning n k states lines → ◌≡◌ {A = Result FlowMeaning ChartFault} (Ok meaning) (chart_of n k states lines)
granted n k states lines meaning some few short none is = ap Ok is ∙ sym (by_lines n k states lines None some few short none)
