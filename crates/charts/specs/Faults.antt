-- The number, layer and place of the refusals of a chart.
use Rattle.refusals.specs.declared.Layer.TheVariants.{Chart}
use Rattle.refusals.specs.declared.Refusal.{Refusal}
use Rattle.charts.specs.declared.fault.ChartFault.{ChartFault}
use Rattle.charts.specs.declared.fault.ChartFault.TheVariants.{BeyondLimits, LineBeyond}

-- A chart beyond the limits is number 13 of the layer of charts, at place 0, and a line beyond them is number 14, at its place.
abbrev pub refusal_of : ChartFault → Refusal
refusal_of BeyondLimits = record { layer = Chart; number = 13; place = 0 }
refusal_of (LineBeyond place) = record { layer = Chart; number = 14; place = place }
