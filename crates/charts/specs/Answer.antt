-- What the making of a chart answers, seen by meanings.
use Rattle.std.specs.Prelude.{Ok, Err, Result}
use Rattle.runs.specs.Flows.{FlowMeaning}
use Rattle.charts.specs.Kept.{kept_meaning}
use Rattle.charts.specs.declared.chart.ChartFlow.{ChartFlow}
use Rattle.charts.specs.declared.fault.ChartFault.{ChartFault}

-- An answer with the chart in it replaced by what it means.
abbrev pub meant : Result ChartFlow ChartFault → Result FlowMeaning ChartFault
meant (Ok chart) = Ok (kept_meaning chart)
meant (Err fault) = Err fault
