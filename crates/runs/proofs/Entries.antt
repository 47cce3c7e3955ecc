-- The entries of a walk's list: what each holds, and that it stays.
use Rattle.std.proofs.Common.{◌≡◌, ℕ, suc, ◌<◌, ◌≤◌, length, get_or}
use Rattle.runs.specs.Flows.{FlowMeaning}
use Rattle.runs.specs.Walks.{list_after, no_listed}
use Rattle.runs.proofs.Trees.{Live, list_next, tree_listed}

module _ (n k : ℕ) (f g : FlowMeaning) (i : ℕ) where
  -- While there were pairs to follow, each entry but the start was met from an earlier one,
  pub met_earlier : Live n k f g i → (j : ℕ) → 0 < j → j < length (list_after n k f g i) → (get_or (list_after n k f g i) j no_listed).from < j
  met_earlier live j some lt = (tree_listed n k f g i live).back j some lt

  -- by a move within bounds.
  pub moved_within : Live n k f g i → (j : ℕ) → 0 < j → j < length (list_after n k f g i)
      → ((get_or (list_after n k f g i) j no_listed).move.situation < n) × ((get_or (list_after n k f g i) j no_listed).move.action < k)
  moved_within live j some lt = (tree_listed n k f g i live).bounded j some lt

  -- An entry stays what it is when one pair more is followed,
  pub entry_stays : (j : ℕ) → j < length (list_after n k f g i) → get_or (list_after n k f g (suc i)) j no_listed ≡ get_or (list_after n k f g i) j no_listed
  entry_stays j lt = (list_next n k f g i).1 j lt

  -- and the list grows no shorter.
  pub length_grows : length (list_after n k f g i) ≤ length (list_after n k f g (suc i))
  length_grows = (list_next n k f g i).0
