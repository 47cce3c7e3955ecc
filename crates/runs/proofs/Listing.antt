-- Lists of pairs: what is listed, what one more pair changes, and that what was listed stays.
use Rattle.std.proofs.Common.{◌≡◌, ℕ, zero, suc, ◌<◌, ◌≤◌, Bool, true, false, List, [], ◌∷◌, ◌++◌, length, get_or, refl, ap, ◌∙◌, inl, inr, ⊎_elim, arith, length-append}
use lib.ListN.{get_or-append}
use lib.Seq.{get_or-append_seam}
use Rattle.std.proofs.lemmas.Bool.{or_cases, or_left, or_right, false≢true}
use Rattle.runs.specs.Flows.{FlowMeaning}
use Rattle.runs.specs.Pairs.{Pair, next_pair, same_pair}
use Rattle.runs.specs.Runs.{Move}
use Rattle.runs.specs.Walks.{Listed, at, followed, has, no_listed, put, put_unless}
use Rattle.runs.proofs.Moves.{OneOf}
use Rattle.runs.proofs.Pairs.{same_pair_equal, equal_same_pair}

-- The listed pair with this number, and how it was met.
abbrev pub entry_at : List Listed → ℕ → Listed
entry_at list i = get_or list i no_listed

-- A pair stands in the list under some number.
abbrev pub Held : Pair → List Listed → Type 0
Held p list = (j : ℕ) × (j < length list) × (at list j ≡ p)

-- A listed pair has a number.
pub has_held : (p : Pair) (list : List Listed) → has p list ≡ true → Held p list
has_held p [] h = absurd (false≢true h)
has_held p (entry ∷ list) h =
    ⊎_elim
    (λ here. (0, omega arith, same_pair_equal entry.pair p here))
    (λ later. let held = has_held p list later in (suc held.0, omega arith, held.2))
    (or_cases (same_pair entry.pair p) (has p list) h)

-- A pair that has a number is listed.
pub held_has : (p : Pair) (list : List Listed) (j : ℕ) → j < length list → at list j ≡ p → has p list ≡ true
held_has p [] j lt e = absurd (omega arith)
held_has p (entry ∷ list) zero lt e = or_left _ _ (equal_same_pair entry.pair p e)
held_has p (entry ∷ list) (suc j) lt e = or_right _ _ (held_has p list j (omega arith) e)

-- The first list is the front of the second: what was listed stays.
abbrev pub Front : List Listed → List Listed → Type 0
Front before now = (length before ≤ length now) × ((j : ℕ) → j < length before → entry_at now j ≡ entry_at before j)

-- A list is the front of itself.
pub front_refl : (list : List Listed) → Front list list
front_refl list = (omega arith, λ j h. refl)

-- The front of a front is a front.
pub front_trans : (xs ys zs : List Listed) → Front xs ys → Front ys zs → Front xs zs
front_trans xs ys zs a b = (omega arith, λ j h. b.1 j (omega arith) ∙ a.1 j h)

-- A number of the front has the same pair in the longer list.
pub front_at : (xs ys : List Listed) → Front xs ys → (j : ℕ) → j < length xs → at ys j ≡ at xs j
front_at xs ys front j h = ap (λ (entry : Listed). entry.pair) (front.1 j h)

-- A pair of the front is listed in the longer list.
pub front_has : (p : Pair) (xs ys : List Listed) → Front xs ys → has p xs ≡ true → has p ys ≡ true
front_has p xs ys front h =
    let held = has_held p xs h in
    held_has p ys held.0 (omega arith) (front_at xs ys front held.0 held.1 ∙ held.2)

-- With an entry at the end, the numbers before have what they had,
pub entry_old : (list : List Listed) (entry : Listed) (j : ℕ) → j < length list → entry_at (list ++ (entry ∷ [])) j ≡ entry_at list j
entry_old list entry j h = get_or-append list (entry ∷ []) no_listed j h

-- the next number has the entry,
pub entry_new : (list : List Listed) (entry : Listed) → entry_at (list ++ (entry ∷ [])) (length list) ≡ entry
entry_new list entry = get_or-append_seam list entry [] no_listed

-- and the list is one longer.
pub length_more : (list : List Listed) (entry : Listed) → length (list ++ (entry ∷ [])) ≡ suc (length list)
length_more list entry = length-append list (entry ∷ []) ∙ (omega arith)

-- Putting a pair down changes nothing before it.
pub put_front : (list : List Listed) (entry : Listed) → Front list (put list entry)
put_front list entry = go (has entry.pair list)
  where
    go : (b : Bool) → Front list (put_unless b list entry)
    go true = front_refl list
    go false = (omega (arith, length_more list entry), λ j h. entry_old list entry j h)

-- A pair that was put down is listed.
pub put_has : (list : List Listed) (entry : Listed) → has entry.pair (put list entry) ≡ true
put_has list entry = go (has entry.pair list) refl
  where
    go : (b : Bool) → has entry.pair list ≡ b → has entry.pair (put_unless b list entry) ≡ true
    go true h = h
    go false h =
        held_has entry.pair (list ++ (entry ∷ [])) (length list) (omega (arith, length_more list entry))
        (ap (λ (x : Listed). x.pair) (entry_new list entry))

module _ (f g : FlowMeaning) (i : ℕ) (p : Pair) where
  -- What is put down when p, of number i, is followed along a move.
  abbrev pub reached : Move → Listed
  reached move = record { pair = next_pair f g p move; from = i; move = move }

  -- Following a pair changes nothing of what was listed.
  pub followed_front : (moves : List Move) (list : List Listed) → Front list (followed f g list i p moves)
  followed_front [] list = front_refl list
  followed_front (move ∷ moves) list = front_trans list _ _ (put_front list (reached move)) (followed_front moves (put list (reached move)))

  -- Where a pair was followed along a move, the next pair is listed.
  pub followed_has : (moves : List Move) (list : List Listed) (move : Move) → OneOf move moves → has (next_pair f g p move) (followed f g list i p moves) ≡ true
  followed_has [] list move h = absurd h
  followed_has (first ∷ moves) list move (inl e) =
      front_has (next_pair f g p move) (put list (reached first)) _ (followed_front moves (put list (reached first)))
      (ap (λ y. has (next_pair f g p y) (put list (reached first))) e ∙ put_has list (reached first))
  followed_has (first ∷ moves) list move (inr h) = followed_has moves (put list (reached first)) move h
