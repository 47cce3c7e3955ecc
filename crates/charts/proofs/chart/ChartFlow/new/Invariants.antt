-- What is drawn so far says, with the lines that are left, what all the lines say, and no line so far is beyond.
use Rattle.charts.proofs.Drawing.{SofarIn}
use Rattle.charts.proofs.chart.ChartFlow.new.Given as goal

abbrev pub invariant-loop-place : goal.invariant-loop-place
invariant-loop-place l = SofarIn l.counts.situations l.counts.actions l.states l.lines l.place l.chart
