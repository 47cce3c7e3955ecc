-- What a chart means as a flow.
use Rattle.std.specs.Prelude.{ℕ, cond, ◌&&◌, List, nat_lt}
use Rattle.runs.specs.Flows.{FlowMeaning}
use Rattle.charts.specs.Lines.{leads_to, ends_at}
use Rattle.charts.specs.declared.line.Line.{Line}

-- The flow of n situations and k actions whose codes are states and whose start is state 0, with the situations in which a
-- run may end at each state, and the state that each action leads to. A code that is no state accepts nothing and leads
-- to 255. A situation or an action out of range gives the code back.
abbrev pub state_flow : (n k states : ℕ) → (ℕ → ℕ) → (ℕ → ℕ → ℕ → ℕ) → FlowMeaning
state_flow n k states ends leads = record {
  situations = n;
  actions = k;
  start = 0;
  accept = λ code. cond (nat_lt code states) (ends code) 0;
  next = λ code s a. cond (nat_lt s n && nat_lt a k) (cond (nat_lt code states) (leads code s a) 255) code;
}

-- A chart ends and leads as its lines say.
abbrev pub chart_meaning : (n k states : ℕ) → List Line → FlowMeaning
chart_meaning n k states lines = state_flow n k states (ends_at lines) (leads_to lines)
