-- No fewer moves lead to a listed pair: what fewer moves lead to stands before it.
use Rattle.std.proofs.Common.{◌≡◌, ℕ, zero, suc, ◌+◌, ◌<◌, ◌≤◌, List, [], ◌∷◌, length, sym, refl, ap, ◌∙◌, subst, ⊎_elim, arith}
use Rattle.std.proofs.lemmas.Bool.{cases_lt}
use Rattle.runs.specs.Flows.{FlowMeaning}
use Rattle.runs.specs.Pairs.{Pair, next_pair, pair_after, start_pair}
use Rattle.runs.specs.Runs.{Move, MovesWithin}
use Rattle.runs.specs.Tracing.{traced_back}
use Rattle.runs.specs.Walks.{Listed, at, list_after, moves_below}
use Rattle.runs.proofs.Listing.{entry_at, followed_has, front_at, has_held}
use Rattle.runs.proofs.Moves.{one_of_moves}
use Rattle.runs.proofs.Traces.{depth_next, depth_up}
use Rattle.runs.proofs.Trees.{Live, Tree, list_front, tree_listed}

module _ (n k : ℕ) (f g : FlowMeaning) (i : ℕ) (live : Live n k f g (suc i)) where
  -- The list when the pairs before i have been followed.
  abbrev list : List Listed
  list = list_after n k f g i

  -- It is a tree, as each of them was there.
  tree : Tree n k f g i list
  tree = tree_listed n k f g i (λ j h. live j (omega arith))

  -- How many moves lead to pair j.
  abbrev depth : ℕ → ℕ
  depth j = length (traced_back list j j)

  -- The pair is listed, and at most d moves lead to it.
  abbrev Near : ℕ → Pair → Type 0
  Near d p = (j : ℕ) × (j < length list) × (at list j ≡ p) × (depth j ≤ d)

  -- A pair that was met from j or before takes at most one move more than j.
  one_deeper : (j x : ℕ) → j < i → x < length list → (0 < x → (entry_at list x).from ≤ j) → depth x ≤ suc (depth j)
  one_deeper j zero h l met = omega arith
  one_deeper j (suc x) h l met =
      let early = met (omega arith) in
      omega (
        arith,
        depth_next n k f g i list tree (suc x) (omega arith) l,
        depth_up n k f g i list tree j (entry_at list (suc x)).from j (omega arith) early (omega (arith, live i (omega arith))),
      )

  -- What a move leads to from a pair before i is listed, one move further at most.
  one_move : (j : ℕ) → j < i → (move : Move) → move.situation < n → move.action < k → Near (suc (depth j)) (next_pair f g (at list j) move)
  one_move j h move s a =
      let there : j < length (list_after n k f g j) = live j (omega arith) in
      let early = list_front n k f g j i (omega arith) in
      let later = list_front n k f g (suc j) i h in
      let next = next_pair f g (at (list_after n k f g j) j) move in
      let held = has_held next (list_after n k f g (suc j))
      (followed_has f g j _ (moves_below n k) (list_after n k f g j) move (one_of_moves move n k s a)) in
      let then = tree_listed n k f g (suc j) (λ x l. live x (omega arith)) in
      let met : 0 < held.0 → (entry_at list held.0).from ≤ j =
      λ some. subst (λ (entry : Listed). entry.from ≤ j) (sym (later.1 held.0 held.1)) (omega (arith, then.low held.0 some held.1)) in (
        held.0,
        omega (arith, later.0, held.1),
        front_at (list_after n k f g (suc j)) list later held.0 held.1 ∙ held.2
            ∙ ap (λ p. next_pair f g p move) (sym (front_at (list_after n k f g j) list early j there)),
        one_deeper j held.0 h (omega (arith, later.0, held.1)) met,
      )

  -- From a pair before i, so few moves that i is not reached lead to a pair before i.
  stays_before : (moves : List Move) (j d : ℕ) → j < i → depth j ≤ d → d + length moves < depth i → MovesWithin n k moves
      → (x : ℕ) × (x < i) × (at list x ≡ pair_after f g (at list j) moves)
  stays_before [] j d h a b within = (j, h, refl)
  stays_before (move ∷ moves) j d h a b within =
      let near = one_move j h move within.0 within.1 in
      let before : near.0 < i = ⊎_elim
      (λ less. less)
      (λ least. absurd (omega (arith, near.3, depth_up n k f g i list tree near.0 i near.0 (omega arith) least near.1)))
      (cases_lt near.0 i) in
      let rest = stays_before moves near.0 (suc d) before (omega (arith, near.3)) (omega arith) within.2 in
      (rest.0, rest.1, rest.2 ∙ ap (λ p. pair_after f g p moves) near.2)

  -- Moves fewer than those traced back from pair i lead to a pair before i.
  pub fewer_before : (moves : List Move) → MovesWithin n k moves → length moves < length (traced_back (list_after n k f g i) i i)
      → (x : ℕ) × (x < i) × (at (list_after n k f g i) x ≡ pair_after f g (start_pair f g) moves)
  fewer_before moves within fewer = go i refl
    where
      go : (l : ℕ) → i ≡ l → (x : ℕ) × (x < i) × (at list x ≡ pair_after f g (start_pair f g) moves)
      go zero e = absurd (omega (arith, ap depth e))
      go (suc l) e =
          let r = stays_before moves 0 0 (omega arith) (omega arith) (omega arith) within in
          (r.0, r.1, r.2 ∙ ap (λ p. pair_after f g p moves) tree.root)
