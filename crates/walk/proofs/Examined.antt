-- The turns of the loop that examines a list: what is found from a pair on is what is found at all.
use Rattle.std.proofs.Common.{◌≡◌, ℕ, suc, ◌+◌, ◌<◌, ◌≤◌, cond, List, map, length, get_or, drop, Some, None, sym, ap, ◌∙◌, add-one, arith}
use lib.ListN.{length-map}
use Rattle.std.proofs.lemmas.List.{at_drop_all, at_drop_more, get_or-map}
use Rattle.runs.specs.Checks as checks
use Rattle.runs.specs.Checks.{finding, finding_from, leads_into, passes}
use Rattle.runs.specs.Flows.{FlowMeaning}
use Rattle.runs.specs.Pairs.{Pair, disagree_at}
use Rattle.runs.specs.Walks.{moves_below}
use Rattle.walk.specs.declared.pair.CodePair.{CodePair}
use Rattle.walk.specs.declared.verdict.Finding.{Finding}
use Rattle.walk.specs.Checked.{told}
use Rattle.walk.specs.Failing.{failing_at}
use Rattle.walk.specs.Records.{pair_of}

-- What stands for a pair past the end.
abbrev no_pair : CodePair
no_pair = record { left = 0; right = 0 }

module _ (f g : FlowMeaning) (list : List CodePair) where
  -- The list, as it is checked.
  abbrev pairs : List Pair
  pairs = map pair_of list

  -- What is found of the list.
  abbrev pub whole : checks.Finding
  whole = finding f.situations f.actions f g pairs

  -- What is found from pair i on.
  abbrev pub from : ℕ → checks.Finding
  from i = finding_from f.situations f.actions f g pairs i (drop i pairs)

  -- All pairs have been examined.
  pub passed : (i : ℕ) → length list ≤ i → from i ≡ whole → passes ≡ whole
  passed i end so_far =
      sym (at_drop_all (finding_from f.situations f.actions f g pairs i) pairs i (omega (arith, length-map list pair_of))) ∙ so_far

  module _ (i : ℕ) (less : i < length list) (so_far : from i ≡ whole) where
    abbrev p : Pair
    p = pair_of (get_or list i no_pair)

    -- Pair i, opened.
    opened : cond (disagree_at f g p) (checks.masks_fail i) (cond (leads_into f g pairs p (moves_below f.situations f.actions)) (from (suc i)) (checks.step_fails i)) ≡ whole
    opened =
        let here : get_or pairs i (pair_of no_pair) ≡ p = get_or-map pair_of list i no_pair (pair_of no_pair) less in
        sym
        (at_drop_more (finding_from f.situations f.actions f g pairs i) pairs i (pair_of no_pair) (omega (arith, length-map list pair_of))
        ∙ (λ j. cond (disagree_at f g (here j)) (checks.masks_fail i) (cond (leads_into f g pairs (here j) (moves_below f.situations f.actions)) (finding_from f.situations f.actions f g pairs (suc i) (drop (add-one i j) pairs)) (checks.step_fails i))))
        ∙ so_far

    -- What fails at it is what is found,
    pub fails : (x : Finding) → Some x ≡ failing_at f g pairs i p → x ≡ told whole
    fails x e = let o = opened in grind arith

    -- and where nothing does, the next pair is to be examined.
    pub onward : None ≡ failing_at f g pairs i p → from (i + 1) ≡ whole
    onward e =
        let o = opened in
        let rest : from (suc i) ≡ whole = grind arith in
        ap from (add-one i) ∙ rest
