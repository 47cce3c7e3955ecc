-- How long a traced run can be.
use Rattle.std.proofs.Common.{ℕ, zero, suc, ◌≤◌, List, [], ◌∷◌, length, get_or, arith, length-append}
use Rattle.runs.specs.Flows.{FlowMeaning}
use Rattle.runs.specs.Runs.{actions_of}
use Rattle.runs.specs.Tracing.{shown_run, traced_back}
use Rattle.runs.specs.Walks.{Listed, list_after, no_listed}

-- Each step back gives one move.
pub traced_length : (list : List Listed) (steps i : ℕ) → length (traced_back list steps i) ≤ steps
traced_length list zero i = omega arith
traced_length list (suc steps) zero = omega arith
traced_length list (suc steps) (suc i) =
    let from = (get_or list (suc i) no_listed).from in
    omega (arith, length-append (traced_back list steps from) ((get_or list (suc i) no_listed).move ∷ []), traced_length list steps from)

-- The run that is shown at pair i has at most i actions.
pub shown_actions : (n k : ℕ) (f g : FlowMeaning) (i : ℕ) → actions_of (shown_run n k f g i) ≤ i
shown_actions n k f g i = traced_length (list_after n k f g i) i i
