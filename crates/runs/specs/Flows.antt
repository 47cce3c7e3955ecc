-- What a flow means, the laws that every flow shows of its meaning, and the runs that it allows.
use Rattle.std.specs.Prelude.{◌≡◌, ℕ, ◌^◌, ◌<◌, ◌≤◌, Bool, ◌⊎◌, List, [], ◌∷◌}
use Rattle.masks.specs.Bits.{bit}
use Rattle.runs.specs.Runs.{Move, Run, Within}

-- A flow has situations and actions, each numbered from 0, and goes from code to code: it begins at the start code, in a
-- situation an action leads from a code to the next, and at each code it accepts the situations of a mask.
pub record FlowMeaning : Type 0 where
  pub situations : ℕ
  pub actions : ℕ
  pub start : ℕ
  pub accept : ℕ → ℕ
  pub next : ℕ → ℕ → ℕ → ℕ

-- There are 1 to 64 situations and at most 16 actions, codes have 64 bits, what is accepted is among the situations, and a
-- situation or an action out of range gives the code back.
pub record Lawful (flow : FlowMeaning) : Type 0 where
  pub some : 1 ≤ flow.situations
  pub most : flow.situations ≤ 64
  pub few : flow.actions ≤ 16
  pub start_fits : flow.start < 2 ^ 64
  pub next_fits : (code s a : ℕ) → code < 2 ^ 64 → flow.next code s a < 2 ^ 64
  pub accepts_situations : (code : ℕ) → flow.accept code < 2 ^ flow.situations
  pub outside : (code s a : ℕ) → (flow.situations ≤ s) ⊎ (flow.actions ≤ a) → flow.next code s a ≡ code

-- The code that the moves lead to from a code.
abbrev pub after : FlowMeaning → ℕ → List Move → ℕ
after flow code [] = code
after flow code (move ∷ moves) = after flow (flow.next code move.situation move.action) moves

-- A flow allows a run when its moves lead from the start to a code that accepts its last situation.
abbrev pub allows : FlowMeaning → Run → Bool
allows flow run = bit run.last (flow.accept (after flow flow.start run.moves))

-- Two flows of n situations and k actions allow the same runs.
abbrev pub SameRuns : ℕ → ℕ → FlowMeaning → FlowMeaning → Type 0
SameRuns n k f g = (run : Run) → Within n k run → allows f run ≡ allows g run
