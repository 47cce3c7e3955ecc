-- The lines are drawn one by one; a line beyond is told, and after the last the chart means them all.
use Rattle.std.proofs.Common.{sym, subst, arith}
use Rattle.charts.specs.Paths.{AllowsRunsAlong}
use Rattle.charts.proofs.Answered.{granted}
use Rattle.charts.proofs.Drawing.{none_yet, cut_zeros, zeros_within, none_beyond_all, drawn}
use Rattle.charts.proofs.RunsAlong.{runs_along}
use Rattle.charts.proofs.chart.ChartFlow.new.Goals as goal

pub invariant_of-chart : goal.invariant_of-chart
invariant_of-chart c =
    let zeros = cut_zeros c.args.states _ _ (omega arith) c.from-ends.ensures.0 c.truncate.ensures.items in
    record { few = omega (arith, zeros.count); within = zeros_within c.args.counts.situations c.args.states _ zeros }

pub loop-place-init : goal.loop-place-init
loop-place-init c =
    none_yet c.args.states c.args.lines.now c.args.counts _ _ (cut_zeros c.args.states _ _ (omega arith) c.from-ends.ensures.0 c.truncate.ensures.items) c.new.ensures

pub returns : goal.returns
returns c =
    let n = c.args.counts.situations in
    let k = c.args.counts.actions in
    let states = c.args.states in
    let lines = c.args.lines.now in
    let place = c.loop-place.place in
    let so = c.loop-place.invariant in
    let meaning = granted n k states lines _ (omega arith) (omega arith) (omega arith)
    (none_beyond_all n k states lines place so.none_beyond c.loop-place-test.false)
    (drawn n k states lines place c.loop-place.chart so c.loop-place-test.false) in
    record { meaning = meaning; allows_exactly_the_runs_of_its_lines = subst (AllowsRunsAlong n k lines) (sym meaning) (runs_along n k states lines) }
