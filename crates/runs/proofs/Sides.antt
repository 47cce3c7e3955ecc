-- Where a walk ended different, the shown run leads both flows to the pair that it ended at: the side that allows the run is the one whose mask has its last situation.
use Rattle.std.proofs.Common.{◌≡◌, ℕ, sym, ap, ◌∙◌, arith}
use Rattle.masks.specs.Bits.{bit}
use Rattle.runs.specs.Flows.{FlowMeaning, after, allows}
use Rattle.runs.specs.Pairs.{Pair, start_pair}
use Rattle.runs.specs.Tracing.{shown_run}
use Rattle.runs.specs.Walks.{at, different, list_after, walk}
use Rattle.runs.proofs.Endings.{ending_says}
use Rattle.runs.proofs.Pairs.{pair_of_codes}
use Rattle.runs.proofs.Traces.{traced_leads}
use Rattle.runs.proofs.Trees.{tree_listed}

module _ (n k room i : ℕ) (f g : FlowMeaning) (ends : walk n k f g room ≡ different i) where
  -- The moves of the shown run lead to the pair.
  shown_leads : record { left = after f f.start (shown_run n k f g i).moves; right = after g g.start (shown_run n k f g i).moves } ≡ at (list_after n k f g i) i
  shown_leads =
      let s = ending_says n k f g room (different i) ends in
      let tree = tree_listed n k f g i (λ j h. s.0 j (omega arith)) in
      sym (pair_of_codes f g (shown_run n k f g i).moves (start_pair f g))
      ∙ traced_leads n k f g i (list_after n k f g i) tree i i (omega arith) (s.0 i (omega arith))

  -- The left flow is at the pair's left code then,
  pub shown_code_left : after f f.start (shown_run n k f g i).moves ≡ (at (list_after n k f g i) i).left
  shown_code_left = ap (λ (p : Pair). p.left) shown_leads

  -- and the right flow at its right code.
  pub shown_code_right : after g g.start (shown_run n k f g i).moves ≡ (at (list_after n k f g i) i).right
  shown_code_right = ap (λ (p : Pair). p.right) shown_leads

  -- The left flow allows the run exactly when its mask at the pair has the last situation.
  pub left_allows : allows f (shown_run n k f g i) ≡ bit (shown_run n k f g i).last (f.accept (at (list_after n k f g i) i).left)
  left_allows = ap (λ code. bit (shown_run n k f g i).last (f.accept code)) shown_code_left

  -- The right flow allows the run exactly when its mask at the pair has the last situation.
  pub right_allows : allows g (shown_run n k f g i) ≡ bit (shown_run n k f g i).last (g.accept (at (list_after n k f g i) i).right)
  right_allows = ap (λ code. bit (shown_run n k f g i).last (g.accept code)) shown_code_right
