-- The chart of the worked cases.
use Rattle.std.specs.Prelude.{List, [], ◌∷◌}
use Rattle.charts.specs.Charts.{chart_meaning}
use Rattle.charts.specs.declared.line.Line.{Line}
use Rattle.charts.specs.declared.line.Line.TheVariants.{Move, End}
use Rattle.runs.specs.Flows.{FlowMeaning}

-- From state 0 action 0 leads to state 1 in both situations, and at state 1 a run may end in both.
abbrev pub send_lines : List Line
send_lines = Move 0 3 0 1 ∷ End 1 3 ∷ []

-- The flow of these lines: two situations, two actions and two states.
abbrev pub send_chart : FlowMeaning
send_chart = chart_meaning 2 2 2 send_lines
