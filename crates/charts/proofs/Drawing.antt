-- How a chart grows line by line, to what all its lines mean.
use Rattle.std.proofs.Common.{◌≡◌, ℕ, ◌+◌, ◌^◌, ◌<◌, ◌≤◌, true, List, [], length, get_or, take, drop, replicate, Some, None, sym, refl, ap, ◌∙◌, subst, ⊎_elim, arith, pow_pos}
use lib.Bits.{bit_or, or_zero_l, or_zero_r}
use Rattle.std.proofs.lemmas.List.{at_drop_more, at_drop_all, get_or-replicate, get_or_past, length-replicate, take-replicate}
use Rattle.std.proofs.lemmas.Bool.{cases_lt, cond-true}
use Rattle.flows.specs.declared.counts.Counts.{Counts}
use Rattle.charts.specs.Lines.{leads_to, ends_at}
use Rattle.charts.specs.Charts.{state_flow, chart_meaning}
use Rattle.charts.specs.Limits.{line_within, first_beyond}
use Rattle.charts.specs.Kept.{along, kept_meaning}
use Rattle.charts.specs.Drawn.{Grew}
use Rattle.charts.specs.declared.line.Line.{Line}
use Rattle.charts.specs.declared.arrow.Arrow.{Arrow}
use Rattle.charts.specs.declared.chart.ChartFlow.{ChartFlow}

-- The lines before a place are within, and are drawn in the chart that has these parts.
pub record Sofar (n k states : ℕ) (lines : List Line) (place : ℕ) (counts : Counts) (masks : List ℕ) (arrows : List Arrow) : Type 0 where
  pub situations : counts.situations ≡ n
  pub actions : counts.actions ≡ k
  pub of_states : length masks ≡ states
  pub room : length arrows ≤ place
  pub none_beyond : first_beyond n k states place (drop place lines) ≡ first_beyond n k states 0 lines
  pub leads : (state s a : ℕ) → along arrows (leads_to (drop place lines) state s a) state s a ≡ leads_to lines state s a
  pub ends : (state : ℕ) → bit_or (get_or masks state 0) (ends_at (drop place lines) state) ≡ ends_at lines state

-- The same of a whole chart.
abbrev pub SofarIn : (n k states : ℕ) → List Line → ℕ → ChartFlow → Type 0
SofarIn n k states lines place x = Sofar n k states lines place x.counts x.ends.items x.arrows.items

-- A mask of a list of zeros is 0.
zeros : (m state : ℕ) → ◌≡◌ {A = ℕ} (get_or (replicate m 0) state 0) 0
zeros m state =
    ⊎_elim
    (λ (h : state < m). get_or-replicate m state 0 0 h)
    (λ (h : m ≤ state). get_or_past (replicate m 0) state 0 (subst (λ l. l ≤ state) (sym (length-replicate m 0)) h))
    (cases_lt state m)

-- Masks that were cut from zeros.
pub record Zeros (states : ℕ) (masks : List ℕ) : Type 0 where
  pub count : length masks ≡ states
  pub none : (state : ℕ) → get_or masks state 0 ≡ 0

pub cut_zeros : (states : ℕ) (all masks : List ℕ) → states ≤ 255 → all ≡ replicate 255 0 → masks ≡ take states all → Zeros states masks
cut_zeros states all masks few are cut =
    let is : masks ≡ replicate states 0 = cut ∙ ap (take states) are ∙ take-replicate states 255 0 few in
    record {
      count = ap length is ∙ length-replicate states 0;
      none = λ state. ap (λ xs. get_or xs state 0) is ∙ zeros states state;
    }

-- They are masks of situations.
pub zeros_within : (n states : ℕ) (masks : List ℕ) → Zeros states masks → (state : ℕ) → get_or masks state 0 < 2 ^ n
zeros_within n states masks z state = subst (λ x. x < 2 ^ n) (sym (z.none state)) (pow_pos n)

-- Before the first line nothing is drawn.
pub none_yet : (states : ℕ) (lines : List Line) (counts : Counts) (masks : List ℕ) (arrows : List Arrow) → Zeros states masks → arrows ≡ [] → Sofar counts.situations counts.actions states lines 0 counts masks arrows
none_yet states lines counts masks arrows z none = record {
  situations = refl;
  actions = refl;
  of_states = z.count;
  room = omega (arith, ap length none);
  none_beyond = refl;
  leads = λ state s a. ap (λ xs. along xs (leads_to lines state s a) state s a) none;
  ends = λ state. ap (λ x. bit_or x (ends_at lines state)) (z.none state) ∙ or_zero_l (ends_at lines state);
}

-- The line at the place, if it is within, is drawn.
pub turn : (n k states : ℕ) (lines : List Line) (place : ℕ) (d : Line) (before after : ChartFlow) → SofarIn n k states lines place before → place < length lines → line_within n k states (get_or lines place d) ≡ true → Grew before after (get_or lines place d) → SofarIn n k states lines (place + 1) after
turn n k states lines place d before after so h inside grew =
    let room = so.room in
    let more = grew.added in
    let rest = drop (place + 1) lines in
    record {
      situations = grew.situations ∙ so.situations;
      actions = grew.actions ∙ so.actions;
      of_states = grew.states ∙ so.of_states;
      room = omega arith;
      none_beyond = sym (at_drop_more (first_beyond n k states place) lines place d h ∙ cond-true _ (first_beyond n k states (place + 1) rest) (Some place) inside) ∙ so.none_beyond;
      leads = λ state s a. grew.leads rest state s a ∙ sym (at_drop_more (λ ls. along before.arrows.items (leads_to ls state s a) state s a) lines place d h) ∙ so.leads state s a;
      ends = λ state. grew.ends rest state ∙ sym (at_drop_more (λ ls. bit_or (get_or before.ends.items state 0) (ends_at ls state)) lines place d h) ∙ so.ends state;
    }

-- After the last line none was beyond.
pub none_beyond_all : (n k states : ℕ) (lines : List Line) (place : ℕ) → first_beyond n k states place (drop place lines) ≡ first_beyond n k states 0 lines → length lines ≤ place → first_beyond n k states 0 lines ≡ None
none_beyond_all n k states lines place so h = sym so ∙ at_drop_all (first_beyond n k states place) lines place h

-- After the last line the chart means what its lines mean.
pub drawn : (n k states : ℕ) (lines : List Line) (place : ℕ) (x : ChartFlow) → SofarIn n k states lines place x → length lines ≤ place → kept_meaning x ≡ chart_meaning n k states lines
drawn n k states lines place x so h =
    let leads : (state s a : ℕ) → along x.arrows.items 255 state s a ≡ leads_to lines state s a =
    λ state s a. sym (at_drop_all (λ ls. along x.arrows.items (leads_to ls state s a) state s a) lines place h) ∙ so.leads state s a in
    let ends : (state : ℕ) → get_or x.ends.items state 0 ≡ ends_at lines state =
    λ state. sym (or_zero_r (get_or x.ends.items state 0)) ∙ sym (at_drop_all (λ ls. bit_or (get_or x.ends.items state 0) (ends_at ls state)) lines place h) ∙ so.ends state in
    λ i. state_flow (so.situations i) (so.actions i) (so.of_states i) (λ state. ends state i) (λ state s a. leads state s a i)
