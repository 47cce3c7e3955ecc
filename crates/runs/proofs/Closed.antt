-- Lists of pairs that two flows never leave and agree on: they pass the check, and nothing else does.
use Rattle.std.proofs.Common.{◌≡◌, ℕ, suc, ◌<◌, Bool, true, false, cond, List, [], ◌∷◌, refl, ap, ◌∙◌, subst, inl, inr, ⊎_elim}
use Rattle.std.proofs.lemmas.Bool.{and_from, and_parts, cond-false, cond-true, false≢true, or_cases, or_left, or_right}
use Rattle.masks.specs.Bits.{bit}
use Rattle.runs.specs.Checks.{Finding, finding, finding_from, leads_into, masks_fail, passes, start_missing, step_fails}
use Rattle.runs.specs.Flows.{FlowMeaning, SameRuns}
use Rattle.runs.specs.Pairs.{Pair, disagree_at, is_among, next_pair, pair_after, same_pair, start_pair}
use Rattle.runs.specs.Runs.{Move, MovesWithin}
use Rattle.runs.specs.Theorems.{PassingShowsSameRuns}
use Rattle.runs.specs.Walks.{moves_below}
use Rattle.runs.proofs.Moves.{OneOf, moves_within, one_of_moves}
use Rattle.runs.proofs.Pairs.{equal_masks_agree, equal_same_pair, masks_agree, pair_of_codes, same_pair_equal}

-- A finding is that the list passes.
abbrev is_passing : Finding → Bool
is_passing passes = true
is_passing start_missing = false
is_passing (masks_fail i) = false
is_passing (step_fails i) = false

module _ (n k : ℕ) (f g : FlowMeaning) (list : List Pair) where
  -- The flows agree at a pair, and every move leads from it into the list.
  abbrev Good : Pair → Type 0
  Good p = (f.accept p.left ≡ g.accept p.right)
      × ((move : Move) → move.situation < n → move.action < k → is_among (next_pair f g p move) list ≡ true)

  -- The start is in the list, and each pair of the list is good.
  abbrev pub Closed : Type 0
  Closed = (is_among (start_pair f g) list ≡ true) × ((p : Pair) → is_among p list ≡ true → Good p)

  -- Where all moves lead into the list, each of them does.
  each_leads : (p : Pair) (moves : List Move) → leads_into f g list p moves ≡ true → (move : Move) → OneOf move moves → is_among (next_pair f g p move) list ≡ true
  each_leads p [] h move one = absurd one
  each_leads p (first ∷ moves) h move (inl e) =
      ap (λ m. is_among (next_pair f g p m) list) e ∙ (and_parts (is_among (next_pair f g p first) list) (leads_into f g list p moves) h).0
  each_leads p (first ∷ moves) h move (inr one) =
      each_leads p moves (and_parts (is_among (next_pair f g p first) list) (leads_into f g list p moves) h).1 move one

  -- Where each move within bounds leads into the list, all do.
  all_lead : (p : Pair) (moves : List Move) → MovesWithin n k moves
      → ((move : Move) → move.situation < n → move.action < k → is_among (next_pair f g p move) list ≡ true) → leads_into f g list p moves ≡ true
  all_lead p [] within each = refl
  all_lead p (move ∷ moves) within each = and_from _ _ (each move within.0 within.1) (all_lead p moves within.2 each)

  -- Pairs that pass are good.
  passing_good : (i : ℕ) (pairs : List Pair) → finding_from n k f g list i pairs ≡ passes → (p : Pair) → is_among p pairs ≡ true → Good p
  passing_good i [] e p among = absurd (false≢true among)
  passing_good i (q ∷ pairs) e p among =
      go (disagree_at f g q) refl (leads_into f g list q (moves_below n k)) refl e (λ rest later. passing_good (suc i) pairs rest p later)
    where
      go : (a : Bool) → disagree_at f g q ≡ a → (b : Bool) → leads_into f g list q (moves_below n k) ≡ b
          → cond a (masks_fail i) (cond b (finding_from n k f g list (suc i) pairs) (step_fails i)) ≡ passes
          → (finding_from n k f g list (suc i) pairs ≡ passes → is_among p pairs ≡ true → Good p) → Good p
      go true x b y z rest = absurd (false≢true (ap is_passing z))
      go false x false y z rest = absurd (false≢true (ap is_passing z))
      go false x true y z rest =
          ⊎_elim
          (λ here. subst Good (same_pair_equal q p here)
          (masks_agree f g q x, λ move s a. each_leads q (moves_below n k) y move (one_of_moves move n k s a)))
          (λ later. rest z later)
          (or_cases (same_pair q p) (is_among p pairs) among)

  -- Good pairs pass.
  good_passing : (i : ℕ) (pairs : List Pair) → ((p : Pair) → is_among p pairs ≡ true → Good p) → finding_from n k f g list i pairs ≡ passes
  good_passing i [] good = refl
  good_passing i (p ∷ pairs) good =
      let here = good p (or_left _ _ (equal_same_pair p p refl)) in
      cond-false (disagree_at f g p) _ _ (equal_masks_agree f g p here.0)
      ∙ cond-true (leads_into f g list p (moves_below n k)) _ _ (all_lead p (moves_below n k) (moves_within n k) here.1)
      ∙ good_passing (suc i) pairs (λ q among. good q (or_right _ _ among))

  -- A list that passes the check is closed.
  passing_closed : finding n k f g list ≡ passes → Closed
  passing_closed e = go (is_among (start_pair f g) list) refl e
    where
      go : (b : Bool) → is_among (start_pair f g) list ≡ b → cond b (finding_from n k f g list 0 list) start_missing ≡ passes → Closed
      go true x z = (x, passing_good 0 list z)
      go false x z = absurd (false≢true (ap is_passing z))

  -- A closed list passes the check.
  pub closed_passing : Closed → finding n k f g list ≡ passes
  closed_passing closed = cond-true (is_among (start_pair f g) list) _ _ closed.0 ∙ good_passing 0 list closed.1

  -- Moves never lead out of a closed list.
  closed_after : Closed → (moves : List Move) (p : Pair) → MovesWithin n k moves → is_among p list ≡ true → is_among (pair_after f g p moves) list ≡ true
  closed_after closed [] p within among = among
  closed_after closed (move ∷ moves) p within among =
      closed_after closed moves (next_pair f g p move) within.2 ((closed.1 p among).1 move within.0 within.1)

  -- Flows with a closed list allow the same runs.
  pub closed_same_runs : Closed → SameRuns n k f g
  closed_same_runs closed run within =
      let masks = (closed.1 _ (closed_after closed run.moves (start_pair f g) within.0 closed.0)).0 in
      ap (bit run.last) (subst (λ (p : Pair). f.accept p.left ≡ g.accept p.right) (pair_of_codes f g run.moves (start_pair f g)) masks)

-- A list that passes the check shows that the flows allow the same runs.
pub passing_shows_same_runs : PassingShowsSameRuns
passing_shows_same_runs n k f g list e = closed_same_runs n k f g list (passing_closed n k f g list e)
