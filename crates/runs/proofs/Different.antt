-- A different ending shows a shortest run on which the two part.
use Rattle.std.proofs.Common.{◌≡◌, ℕ, ◌^◌, ◌<◌, sym, ap, ◌∙◌, subst, arith}
use Rattle.masks.specs.Bits.{bit}
use Rattle.runs.specs.Flows.{FlowMeaning, allows}
use Rattle.runs.specs.Pairs.{Pair, disagree_at, pair_after, start_pair}
use Rattle.runs.specs.Runs.{Run, Within, actions_of}
use Rattle.runs.specs.Theorems.{DifferentShowsAShortestRun}
use Rattle.runs.specs.Tracing.{ShortestApart, shown_run}
use Rattle.runs.specs.Walks.{at, different, list_after, walk}
use Rattle.runs.proofs.Endings.{Said, ending_says}
use Rattle.runs.proofs.Listing.{front_at}
use Rattle.runs.proofs.Lowest.{Lowest, lowest_apart_lem}
use Rattle.runs.proofs.Pairs.{masks_agree, masks_differ, pair_of_codes}
use Rattle.runs.proofs.Shortest.{fewer_before}
use Rattle.runs.proofs.Sides.{left_allows, right_allows, shown_code_left, shown_code_right}
use Rattle.runs.proofs.Traces.{traced_within}
use Rattle.runs.proofs.Trees.{list_front, tree_listed}

module _ (n k room i : ℕ) (f g : FlowMeaning) (fits-f : (code : ℕ) → f.accept code < 2 ^ n) (fits-g : (code : ℕ) → g.accept code < 2 ^ n)
    (ends : walk n k f g room ≡ different i) where
  -- The pairs before i agree, and pair i does not.
  says : Said n k f g room (different i)
  says = ending_says n k f g room (different i) ends

  -- The run that is shown.
  abbrev run : Run
  run = shown_run n k f g i

  -- The pair that the walk ended at.
  abbrev here : Pair
  here = at (list_after n k f g i) i

  -- The last situation is the lowest that tells the masks apart.
  last_is_lowest : Lowest n (f.accept here.left) (g.accept here.right) run.last
  last_is_lowest = lowest_apart_lem n (f.accept here.left) (g.accept here.right) (fits-f _) (fits-g _) (masks_differ f g here says.2)

  -- On a run of fewer actions the flows agree, as they do at every pair before.
  fewer_agree : (other : Run) → Within n k other → actions_of other < actions_of run → allows f other ≡ allows g other
  fewer_agree other within fewer =
      let before = fewer_before n k f g i says.0 other.moves within.0 fewer in
      let x = before.0 in
      let front = list_front n k f g x i (omega (arith, before.1)) in
      let same : at (list_after n k f g x) x ≡ pair_after f g (start_pair f g) other.moves =
      sym (front_at (list_after n k f g x) (list_after n k f g i) front x (says.0 x (omega (arith, before.1)))) ∙ before.2 in
      let masks = masks_agree f g (pair_after f g (start_pair f g) other.moves) (ap (disagree_at f g) (sym same) ∙ says.1 x before.1) in
      ap (bit other.last) (subst (λ (p : Pair). f.accept p.left ≡ g.accept p.right) (pair_of_codes f g other.moves (start_pair f g)) masks)

  -- The shown run is a shortest on which the two part.
  pub shown_shortest : ShortestApart n k f g (shown_run n k f g i)
  shown_shortest =
      let tree = tree_listed n k f g i (λ j h. says.0 j (omega arith)) in
      record {
        within = (traced_within n k f g i (list_after n k f g i) tree i i (omega arith) (says.0 i (omega arith)), last_is_lowest.0);
        parts = λ e. last_is_lowest.1 (sym (left_allows n k room i f g ends) ∙ e ∙ right_allows n k room i f g ends);
        shortest = fewer_agree;
        lowest = λ s less.
            ap (λ code. bit s (f.accept code)) (shown_code_left n k room i f g ends) ∙ last_is_lowest.2 s less
            ∙ ap (λ code. bit s (g.accept code)) (sym (shown_code_right n k room i f g ends));
      }

-- Lawful flows accept nothing past their situations.
pub different_shows_a_shortest_run : DifferentShowsAShortestRun
different_shows_a_shortest_run room i f g lawful-f lawful-g same ends =
    shown_shortest f.situations f.actions room i f g lawful-f.accepts_situations
    (λ code. subst (λ n. g.accept code < 2 ^ n) (sym same) (lawful-g.accepts_situations code)) ends
