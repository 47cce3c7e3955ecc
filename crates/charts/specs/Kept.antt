-- What a chart means in the form in which it is kept.
use Rattle.std.specs.Prelude.{◌≡◌, ℕ, ◌^◌, ◌<◌, ◌≤◌, cond, ◌&&◌, ◌⊎◌, List, [], ◌∷◌, length, nat_lt, slice_index}
use Rattle.std.proofs.Common.{inl, inr, arith, pow_pos}
use Rattle.std.proofs.lemmas.Bool.{cond_both, cond-false, and_left, and_right, le-ltb}
use Rattle.runs.specs.Flows.{FlowMeaning, Lawful}
use Rattle.charts.specs.Lines.{fits}
use Rattle.charts.specs.Charts.{state_flow}
use Rattle.charts.specs.declared.arrow.Arrow.{Arrow}
use Rattle.charts.specs.declared.chart.ChartFlow.{ChartFlow}

-- The state that the first fitting arrow leads to, or another code where none fits.
abbrev pub along : List Arrow → ℕ → ℕ → ℕ → ℕ → ℕ
along [] other state s a = other
along (x ∷ arrows) other state s a = cond (fits x.from x.mask x.action state s a) x.to (along arrows other state s a)

-- A kept chart has a state for each end mask, ends as these say, and leads along its arrows.
abbrev pub kept_meaning : ChartFlow → FlowMeaning
kept_meaning x = state_flow x.counts.situations x.counts.actions (length x.ends.items) (λ state. slice_index x.ends.items state) (along x.arrows.items 255)

-- A state that arrows lead to fits a byte.
along_short : (arrows : List Arrow) (state s a : ℕ) → along arrows 255 state s a ≤ 255
along_short [] state s a = omega arith
along_short (x ∷ arrows) state s a = cond_both (fits x.from x.mask x.action state s a) x.to (along arrows 255 state s a) (λ n. n ≤ 255) (λ e. x.short) (λ e. along_short arrows state s a)

-- So does what comes after a code in range,
next_short : (x : ChartFlow) (code s a : ℕ) → cond (nat_lt code (length x.ends.items)) (along x.arrows.items 255 code s a) 255 ≤ 255
next_short x code s a = cond_both (nat_lt code (length x.ends.items)) (along x.arrows.items 255 code s a) 255 (λ n. n ≤ 255) (λ e. along_short x.arrows.items code s a) (λ e. omega arith)

-- and what comes after any code fits the bits of a code.
next_fits : (x : ChartFlow) (code s a : ℕ) → code < 2 ^ 64 → (kept_meaning x).next code s a < 2 ^ 64
next_fits x code s a h =
    let short = next_short x code s a in
    cond_both (nat_lt s x.counts.situations && nat_lt a x.counts.actions) (cond (nat_lt code (length x.ends.items)) (along x.arrows.items 255 code s a) 255) code (λ n. n < 2 ^ 64) (λ e. omega arith) (λ e. h)

-- Out of range the code is given back.
next_outside : (x : ChartFlow) (code s a : ℕ) → (x.counts.situations ≤ s) ⊎ (x.counts.actions ≤ a) → (kept_meaning x).next code s a ≡ code
next_outside x code s a (inl h) = cond-false _ _ _ (and_left _ _ (le-ltb _ _ h))
next_outside x code s a (inr h) = cond-false _ _ _ (and_right _ _ (le-ltb _ _ h))

-- A kept chart is a lawful flow.
pub kept_lawful : (x : ChartFlow) → Lawful (kept_meaning x)
kept_lawful x = record {
  some = x.counts.some;
  most = x.counts.most;
  few = x.counts.few;
  start_fits = omega arith;
  next_fits = next_fits x;
  accepts_situations = λ code. cond_both (nat_lt code (length x.ends.items)) (slice_index x.ends.items code) 0 (λ n. n < 2 ^ x.counts.situations) (λ e. x.within code) (λ e. pow_pos x.counts.situations);
  outside = next_outside x;
}
