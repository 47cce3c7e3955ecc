-- The walk's list is a tree of first meetings, in the order of the pairs that they were met from.
use Rattle.std.proofs.Common.{◌≡◌, ℕ, zero, suc, ◌<◌, ◌≤◌, Bool, true, false, ◌⊎◌, List, [], ◌∷◌, ◌++◌, length, sym, refl, ap, ◌∙◌, inl, inr, ⊎_elim, arith}
use native.Mathlib.Decide.{le_ind}
use Rattle.std.proofs.lemmas.Bool.{false≢true, cases_lt}
use Rattle.runs.specs.Flows.{FlowMeaning}
use Rattle.runs.specs.Pairs.{Pair, next_pair, start_pair}
use Rattle.runs.specs.Runs.{Move, MovesWithin}
use Rattle.runs.specs.Walks.{Listed, at, followed, has, list_after, listed_start, moves_below, put, put_unless}
use Rattle.runs.proofs.Listing.{Front, entry_new, entry_old, entry_at, followed_front, followed_has, front_at, front_has, front_refl, front_trans, held_has, length_more, put_front, reached}
use Rattle.runs.proofs.Moves.{OneOf, moves_within}

-- The last number of a longer list, or one of those before.
last_or_before : (list : List Listed) (entry : Listed) (j : ℕ) → j < length (list ++ (entry ∷ [])) → (j < length list) ⊎ (j ≡ length list)
last_or_before list entry j h = ⊎_elim (λ before. inl before) (λ least. inr (omega (arith, length_more list entry))) (cases_lt j (length list))

module _ (n k : ℕ) (f g : FlowMeaning) where
  -- Entry 0 is the start. Each other was met from an earlier one, below b, by a move within bounds, and has the pair that
  -- the move leads to; the numbers that entries were met from never fall along the list; and no pair is listed twice.
  pub record Tree (b : ℕ) (list : List Listed) : Type 0 where
    pub some : 0 < length list
    pub root : at list 0 ≡ start_pair f g
    pub back : (j : ℕ) → 0 < j → j < length list → (entry_at list j).from < j
    pub low : (j : ℕ) → 0 < j → j < length list → (entry_at list j).from < b
    pub made : (j : ℕ) → 0 < j → j < length list → at list j ≡ next_pair f g (at list (entry_at list j).from) (entry_at list j).move
    pub bounded : (j : ℕ) → 0 < j → j < length list → ((entry_at list j).move.situation < n) × ((entry_at list j).move.action < k)
    pub up : (j l : ℕ) → 0 < j → j ≤ l → l < length list → (entry_at list j).from ≤ (entry_at list l).from
    pub apart : (j l : ℕ) → j < l → l < length list → at list j ≡ at list l → ⊥

  -- The start alone is a tree.
  tree_start : Tree 0 (listed_start f g ∷ [])
  tree_start = record {
    some = omega arith;
    root = refl;
    back = λ j h l. absurd (omega arith);
    low = λ j h l. absurd (omega arith);
    made = λ j h l. absurd (omega arith);
    bounded = λ j h l. absurd (omega arith);
    up = λ j l a b c. absurd (omega arith);
    apart = λ j l a b. absurd (omega arith);
  }

  -- A bound may be one higher.
  tree_wider : (b : ℕ) (list : List Listed) → Tree b list → Tree (suc b) list
  tree_wider b list t = record {
    some = t.some;
    root = t.root;
    back = t.back;
    low = λ j h l. omega (arith, t.low j h l);
    made = t.made;
    bounded = t.bounded;
    up = t.up;
    apart = t.apart;
  }

  -- A tree stays one with a new pair at its end that was met from pair i.
  module _ (i : ℕ) (list : List Listed) (entry : Listed) (t : Tree (suc i) list) (lt : i < length list) (from-i : entry.from ≡ i)
      (leads : entry.pair ≡ next_pair f g (at list i) entry.move) (bounds : (entry.move.situation < n) × (entry.move.action < k))
      (new : has entry.pair list ≡ false) where
    -- The list with the new pair.
    abbrev longer : List Listed
    longer = list ++ (entry ∷ [])

    -- Its last number has the new entry.
    new_at : (j : ℕ) → j ≡ length list → entry_at longer j ≡ entry
    new_at j h = rw h (entry_new list entry)

    -- Each entry but the start was met from an earlier one,
    longer_back : (j : ℕ) → 0 < j → j < length longer → (entry_at longer j).from < j
    longer_back j h l = ⊎_elim
        (λ (a : j < length list). rw (entry_old list entry j a) (t.back j h a))
        (λ (a : j ≡ length list). rw (new_at j a) (omega arith))
        (last_or_before list entry j l)

    -- from one up to i,
    longer_low : (j : ℕ) → 0 < j → j < length longer → (entry_at longer j).from < suc i
    longer_low j h l = ⊎_elim
        (λ (a : j < length list). rw (entry_old list entry j a) (t.low j h a))
        (λ (a : j ≡ length list). rw (new_at j a) (omega arith))
        (last_or_before list entry j l)

    -- has the pair that its move leads to from there,
    longer_made : (j : ℕ) → 0 < j → j < length longer → at longer j ≡ next_pair f g (at longer (entry_at longer j).from) (entry_at longer j).move
    longer_made j h l = ⊎_elim
        (λ (a : j < length list). rw (at, entry_old list entry j a) (let q : (entry_at list j).from < length list = omega (arith, t.back j h a) in rw (at, entry_old list entry (entry_at list j).from q) (t.made j h a)))
        (λ (a : j ≡ length list). rw (at, new_at j a) (leads ∙ ap (λ (y : Listed). next_pair f g y.pair entry.move) (sym (ap (entry_at longer) from-i ∙ entry_old list entry i lt))))
        (last_or_before list entry j l)

    -- and was met by a move within bounds.
    longer_bounded : (j : ℕ) → 0 < j → j < length longer → ((entry_at longer j).move.situation < n) × ((entry_at longer j).move.action < k)
    longer_bounded j h l = ⊎_elim
        (λ (a : j < length list). rw (entry_old list entry j a) (t.bounded j h a))
        (λ (a : j ≡ length list). rw (new_at j a) bounds)
        (last_or_before list entry j l)

    -- The numbers that entries were met from do not fall, as i is the highest.
    longer_up : (j l : ℕ) → 0 < j → j ≤ l → l < length longer → (entry_at longer j).from ≤ (entry_at longer l).from
    longer_up j l h le below = ⊎_elim
        (λ (a : l < length list). let b : j < length list = omega arith in rw (entry_old list entry j b) (rw (entry_old list entry l a) (t.up j l h le a)))
        (λ (a : l ≡ length list). ⊎_elim
        (λ (b : j < length list). rw (entry_old list entry j b) (rw (new_at l a) (omega (arith, t.low j h b))))
        (λ (b : j ≡ length list). rw (new_at j b) (rw (new_at l a) (omega arith)))
        (last_or_before list entry j (omega arith)))
        (last_or_before list entry l below)

    -- No pair stands twice, as the new one was not listed.
    longer_apart : (j l : ℕ) → j < l → l < length longer → at longer j ≡ at longer l → ⊥
    longer_apart j l less below q = ⊎_elim
        (λ (a : l < length list). let b : j < length list = omega arith in t.apart j l less a (rw (at, entry_old list entry j b, entry_old list entry l a) at q))
        (λ (a : l ≡ length list). let b : j < length list = omega arith in
        false≢true (sym new ∙ held_has entry.pair list j b (rw (at, entry_old list entry j b, new_at l a) at q)))
        (last_or_before list entry l below)

    -- So the longer list is a tree.
    tree_put_new : Tree (suc i) longer
    tree_put_new = record {
      some = omega (arith, length_more list entry);
      root = rw (at, entry_old list entry 0 t.some) t.root;
      back = longer_back;
      low = longer_low;
      made = longer_made;
      bounded = longer_bounded;
      up = longer_up;
      apart = longer_apart;
    }

  -- A tree stays one when a pair that was met from pair i is put down.
  tree_put : (i : ℕ) (list : List Listed) (entry : Listed) → Tree (suc i) list → i < length list → entry.from ≡ i
      → entry.pair ≡ next_pair f g (at list i) entry.move → (entry.move.situation < n) × (entry.move.action < k) → Tree (suc i) (put list entry)
  tree_put i list entry t lt from-i leads bounds = go (has entry.pair list) refl
    where
      go : (b : Bool) → has entry.pair list ≡ b → Tree (suc i) (put_unless b list entry)
      go true h = t
      go false h = tree_put_new i list entry t lt from-i leads bounds h

  -- A tree stays one when its pair i is followed.
  tree_followed : (i : ℕ) (p : Pair) (moves : List Move) (list : List Listed) → Tree (suc i) list → i < length list → at list i ≡ p
      → MovesWithin n k moves → Tree (suc i) (followed f g list i p moves)
  tree_followed i p [] list t lt h within = t
  tree_followed i p (move ∷ moves) list t lt h within =
      let entry = reached f g i p move in
      let front = put_front list entry in
      tree_followed i p moves (put list entry)
      (tree_put i list entry t lt refl (ap (λ y. next_pair f g y move) (sym h)) (within.0, within.1))
      (omega (arith, front.0))
      (front_at list (put list entry) front i lt ∙ h)
      within.2

  -- Every pair below i was there to be followed.
  abbrev pub Live : ℕ → Type 0
  Live i = (j : ℕ) → j < i → j < length (list_after n k f g j)

  -- While there are pairs to follow, the list is a tree.
  pub tree_listed : (i : ℕ) → Live i → Tree i (list_after n k f g i)
  tree_listed zero live = tree_start
  tree_listed (suc i) live =
      tree_followed i _ (moves_below n k) (list_after n k f g i)
      (tree_wider i (list_after n k f g i) (tree_listed i (λ j h. live j (omega arith)))) (live i (omega arith)) refl (moves_within n k)

  -- Following pair i changes nothing of what was listed.
  pub list_next : (i : ℕ) → Front (list_after n k f g i) (list_after n k f g (suc i))
  list_next i = followed_front f g i _ (moves_below n k) (list_after n k f g i)

  -- Nor does following more pairs.
  pub list_front : (i j : ℕ) → i ≤ j → Front (list_after n k f g i) (list_after n k f g j)
  list_front i j h =
      le_ind (λ l. Front (list_after n k f g i) (list_after n k f g l)) (front_refl (list_after n k f g i))
      (λ l a front. front_trans (list_after n k f g i) (list_after n k f g l) (list_after n k f g (suc l)) front (list_next l)) j h

  -- What a move leads to from a pair that was followed is listed.
  pub next_listed : (i j : ℕ) → j < i → (move : Move) → OneOf move (moves_below n k) → has (next_pair f g (at (list_after n k f g j) j) move) (list_after n k f g i) ≡ true
  next_listed i j h move one =
      front_has _ (list_after n k f g (suc j)) (list_after n k f g i) (list_front (suc j) i h) (followed_has f g j _ (moves_below n k) (list_after n k f g j) move one)
