-- A line more in a chart that is being drawn.
use Rattle.std.specs.Prelude.{◌≡◌, ℕ, ◌+◌, ◌≤◌, List, ◌∷◌, length, bit_or, slice_index}
use Rattle.charts.specs.Lines.{leads_to, ends_at}
use Rattle.charts.specs.Kept.{along}
use Rattle.charts.specs.declared.line.Line.{Line}
use Rattle.charts.specs.declared.chart.ChartFlow.{ChartFlow}

-- Before the line is drawn it stands in front of the lines to come, and afterwards it is among those drawn: whatever
-- the lines to come are, drawn and to come say the same together. The counts are kept, and at most one arrow is added.
pub record Grew (before after : ChartFlow) (line : Line) : Type 0 where
  pub situations : after.counts.situations ≡ before.counts.situations
  pub actions : after.counts.actions ≡ before.counts.actions
  pub states : length after.ends.items ≡ length before.ends.items
  pub added : length after.arrows.items ≤ length before.arrows.items + 1
  pub leads : (lines : List Line) (state s a : ℕ) → along after.arrows.items (leads_to lines state s a) state s a ≡ along before.arrows.items (leads_to (line ∷ lines) state s a) state s a
  pub ends : (lines : List Line) (state : ℕ) → bit_or (slice_index after.ends.items state) (ends_at lines state) ≡ bit_or (slice_index before.ends.items state) (ends_at (line ∷ lines) state)
