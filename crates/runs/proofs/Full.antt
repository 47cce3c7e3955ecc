-- A full table means more meeting pairs than it has room for: those of the walk's list.
use Rattle.std.proofs.Common.{arith}
use Rattle.runs.specs.Theorems.{FullMeansMorePairs}
use Rattle.runs.specs.Tracing.{traced_back}
use Rattle.runs.specs.Walks.{full, list_after}
use Rattle.runs.proofs.Endings.{ending_says}
use Rattle.runs.proofs.ListedPairs.{pairs_apart, pairs_length, pairs_meeting, pairs_of}
use Rattle.runs.proofs.Traces.{traced_leads, traced_within}
use Rattle.runs.proofs.Trees.{tree_listed}

-- None of them is listed twice, and the traced moves lead to each.
pub full_means_more_pairs : FullMeansMorePairs
full_means_more_pairs n k room f g e =
    let s = ending_says n k f g room full e in
    let i = s.0 in
    let list = list_after n k f g i in
    let tree = tree_listed n k f g i s.1 in (
      pairs_of list,
      pairs_apart list tree.apart,
      pairs_meeting n k f g list (λ j l.
          (traced_back list j j, traced_within n k f g i list tree j j (omega arith) l, traced_leads n k f g i list tree j j (omega arith) l)),
      omega (arith, pairs_length list, s.2),
    )
