-- Which charts are refused.
use Rattle.std.specs.Prelude.{ℕ, ◌+◌, ◌^◌, Bool, cond, ◌&&◌, List, [], ◌∷◌, length, Some, None, Ok, Err, Option, Result, nat_le, nat_lt}
use Rattle.std.specs.Option.{option_map}
use Rattle.runs.specs.Flows.{FlowMeaning}
use Rattle.charts.specs.Charts.{chart_meaning}
use Rattle.charts.specs.declared.line.Line.{Line}
use Rattle.charts.specs.declared.line.Line.TheVariants.{Move, End}
use Rattle.charts.specs.declared.fault.ChartFault.{ChartFault}
use Rattle.charts.specs.declared.fault.ChartFault.TheVariants.{BeyondLimits, LineBeyond}

-- A chart has 1 to 255 states and at most 256 lines.
abbrev pub within_limits : ℕ → List Line → Bool
within_limits states lines = nat_le 1 states && (nat_le states 255 && nat_le (length lines) 256)

-- The states of a line are among the chart's, its action is one of k, and its mask has no bit from n on.
abbrev pub line_within : (n k states : ℕ) → Line → Bool
line_within n k states (Move from mask action to) = nat_lt from states && (nat_lt to states && (nat_lt action k && nat_lt mask (2 ^ n)))
line_within n k states (End at mask) = nat_lt at states && nat_lt mask (2 ^ n)

-- The place of the first line that is not within, where the lines stand from a place on.
abbrev pub first_beyond : (n k states place : ℕ) → List Line → Option ℕ
first_beyond n k states place [] = None
first_beyond n k states place (line ∷ lines) = cond (line_within n k states line) (first_beyond n k states (place + 1) lines) (Some place)

-- Why a chart is refused, if it is: the limits come first, then the lines in their order.
abbrev pub chart_fault : (n k states : ℕ) → List Line → Option ChartFault
chart_fault n k states lines = cond (within_limits states lines) (option_map LineBeyond (first_beyond n k states 0 lines)) (Some BeyondLimits)

-- A meaning is granted unless there is a fault.
abbrev pub unless : Option ChartFault → FlowMeaning → Result FlowMeaning ChartFault
unless None meaning = Ok meaning
unless (Some fault) meaning = Err fault

-- The chart of n situations, k actions, so many states and these lines.
abbrev pub chart_of : (n k states : ℕ) → List Line → Result FlowMeaning ChartFault
chart_of n k states lines = unless (chart_fault n k states lines) (chart_meaning n k states lines)
