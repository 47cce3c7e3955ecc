-- The check of a list of pairs that is to show two flows equal.
use Rattle.std.specs.Prelude.{ℕ, suc, Bool, true, cond, ◌&&◌, List, [], ◌∷◌}
use Rattle.runs.specs.Flows.{FlowMeaning}
use Rattle.runs.specs.Pairs.{Pair, disagree_at, is_among, next_pair, start_pair}
use Rattle.runs.specs.Runs.{Move}
use Rattle.runs.specs.Walks.{moves_below}

-- The list passes; or the start is missing; or the pair of this number fails, for its masks or for a step.
pub data Finding : Type 0 where
  passes : Finding
  start_missing : Finding
  masks_fail : ℕ → Finding
  step_fails : ℕ → Finding

-- Each pair that the moves lead to from p is in the list.
abbrev pub leads_into : FlowMeaning → FlowMeaning → List Pair → Pair → List Move → Bool
leads_into f g list p [] = true
leads_into f g list p (move ∷ moves) = is_among (next_pair f g p move) list && leads_into f g list p moves

-- The pairs from number i on, each with its masks first; n situations and k actions.
abbrev pub finding_from : ℕ → ℕ → FlowMeaning → FlowMeaning → List Pair → ℕ → List Pair → Finding
finding_from n k f g list i [] = passes
finding_from n k f g list i (p ∷ pairs) =
    cond (disagree_at f g p) (masks_fail i)
    (cond (leads_into f g list p (moves_below n k)) (finding_from n k f g list (suc i) pairs) (step_fails i))

-- The start pair must be in the list, at each pair the masks must agree, and each next pair must be in the list.
abbrev pub finding : ℕ → ℕ → FlowMeaning → FlowMeaning → List Pair → Finding
finding n k f g list = cond (is_among (start_pair f g) list) (finding_from n k f g list 0 list) start_missing
