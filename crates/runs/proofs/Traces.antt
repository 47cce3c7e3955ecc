-- The moves traced back from a listed pair: they lead to it, are within bounds, and grow no shorter along the list.
use Rattle.std.proofs.Common.{◌≡◌, ℕ, zero, suc, ◌<◌, ◌≤◌, List, [], ◌∷◌, ◌++◌, length, sym, refl, ap, ◌∙◌, arith, length-append}
use Rattle.runs.specs.Flows.{FlowMeaning}
use Rattle.runs.specs.Pairs.{next_pair, pair_after, start_pair}
use Rattle.runs.specs.Runs.{MovesWithin}
use Rattle.runs.specs.Tracing.{traced_back}
use Rattle.runs.specs.Walks.{Listed, at}
use Rattle.runs.proofs.Listing.{entry_at}
use Rattle.runs.proofs.Moves.{within_append}
use Rattle.runs.proofs.Pairs.{pair_after_one_more}
use Rattle.runs.proofs.Trees.{Tree}

module _ (n k : ℕ) (f g : FlowMeaning) (b : ℕ) (list : List Listed) (t : Tree n k f g b list) where
  -- Any steps that are enough give the same moves.
  traced_enough : (a c j : ℕ) → j < length list → j ≤ a → j ≤ c → traced_back list a j ≡ traced_back list c j
  traced_enough zero zero j l h e = refl
  traced_enough zero (suc c) zero l h e = refl
  traced_enough zero (suc c) (suc j) l h e = absurd (omega arith)
  traced_enough (suc a) zero zero l h e = refl
  traced_enough (suc a) zero (suc j) l h e = absurd (omega arith)
  traced_enough (suc a) (suc c) zero l h e = refl
  traced_enough (suc a) (suc c) (suc j) l h e =
      let earlier = t.back (suc j) (omega arith) l in
      ap (λ moves. moves ++ ((entry_at list (suc j)).move ∷ [])) (traced_enough a c (entry_at list (suc j)).from (omega arith) (omega arith) (omega arith))

  -- The moves to a pair are those to the pair that it was met from, and one more.
  traced_next : (j : ℕ) → 0 < j → j < length list
      → traced_back list j j ≡ traced_back list (entry_at list j).from (entry_at list j).from ++ ((entry_at list j).move ∷ [])
  traced_next zero h l = absurd (omega arith)
  traced_next (suc j) h l =
      let earlier = t.back (suc j) h l in
      ap (λ moves. moves ++ ((entry_at list (suc j)).move ∷ []))
      (traced_enough j (entry_at list (suc j)).from (entry_at list (suc j)).from (omega arith) (omega arith) (omega arith))

  -- How many moves lead to a pair: one more than to the pair that it was met from.
  pub depth_next : (j : ℕ) → 0 < j → j < length list
      → length (traced_back list j j) ≡ suc (length (traced_back list (entry_at list j).from (entry_at list j).from))
  depth_next j h l =
      ap length (traced_next j h l) ∙ length-append (traced_back list (entry_at list j).from (entry_at list j).from) _ ∙ omega arith

  -- A later pair takes no fewer moves.
  pub depth_up : (steps j l : ℕ) → l ≤ steps → j ≤ l → l < length list → length (traced_back list j j) ≤ length (traced_back list l l)
  depth_up steps zero l c h lt = omega arith
  depth_up steps (suc j) zero c h lt = absurd (omega arith)
  depth_up zero (suc j) (suc l) c h lt = absurd (omega arith)
  depth_up (suc steps) (suc j) (suc l) c h lt =
      let earlier = t.back (suc l) (omega arith) lt in
      let up = t.up (suc j) (suc l) (omega arith) h lt in
      let before = depth_up steps (entry_at list (suc j)).from (entry_at list (suc l)).from (omega arith) up (omega arith) in
      omega (arith, depth_next (suc j) (omega arith) (omega arith), depth_next (suc l) (omega arith) lt)

  -- The moves traced back from a pair lead to it.
  pub traced_leads : (steps j : ℕ) → j ≤ steps → j < length list → pair_after f g (start_pair f g) (traced_back list steps j) ≡ at list j
  traced_leads zero zero h l = sym t.root
  traced_leads zero (suc j) h l = absurd (omega arith)
  traced_leads (suc steps) zero h l = sym t.root
  traced_leads (suc steps) (suc j) h l =
      let earlier = t.back (suc j) (omega arith) l in
      let i = (entry_at list (suc j)).from in
      let move = (entry_at list (suc j)).move in
      pair_after_one_more f g (start_pair f g) (traced_back list steps i) move
      ∙ ap (λ p. next_pair f g p move) (traced_leads steps i (omega arith) (omega arith)) ∙ sym (t.made (suc j) (omega arith) l)

  -- They are within bounds.
  pub traced_within : (steps j : ℕ) → j ≤ steps → j < length list → MovesWithin n k (traced_back list steps j)
  traced_within zero j h l = tt
  traced_within (suc steps) zero h l = tt
  traced_within (suc steps) (suc j) h l =
      let earlier = t.back (suc j) (omega arith) l in
      let bounds = t.bounded (suc j) (omega arith) l in
      within_append n k (traced_back list steps (entry_at list (suc j)).from) _
      (traced_within steps (entry_at list (suc j)).from (omega arith) (omega arith)) (bounds.0, bounds.1, tt)
