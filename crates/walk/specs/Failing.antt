-- What fails at one pair of a list that is checked.
use Rattle.std.specs.Prelude.{ℕ, cond, List, Some, None, Option}
use Rattle.runs.specs.Checks.{leads_into}
use Rattle.runs.specs.Flows.{FlowMeaning}
use Rattle.runs.specs.Pairs.{Pair, disagree_at}
use Rattle.runs.specs.Walks.{moves_below}
use Rattle.walk.specs.declared.verdict.Finding.{Finding}
use Rattle.walk.specs.declared.verdict.Finding.TheVariants.{MasksFail, StepFails}

-- At pair number i, which is p, the masks fail, or else a step does, or nothing.
abbrev pub failing_at : FlowMeaning → FlowMeaning → List Pair → ℕ → Pair → Option Finding
failing_at f g list i p =
    cond (disagree_at f g p) (Some (MasksFail i)) (cond (leads_into f g list p (moves_below f.situations f.actions)) None (Some (StepFails i)))
