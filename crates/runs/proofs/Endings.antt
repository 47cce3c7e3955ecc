-- What the ending of a walk says of the pairs that were followed.
use Rattle.std.proofs.Common.{◌≡◌, ℕ, zero, suc, ◌+◌, ◌<◌, ◌≤◌, Bool, true, false, ltb, leb, length, refl, subst, ⊎_elim, arith}
use Rattle.std.proofs.lemmas.Bool.{cases_lt, ltb-true, ltb-false, leb-true, leb-false}
use Rattle.runs.specs.Flows.{FlowMeaning}
use Rattle.runs.specs.Pairs.{disagree_at}
use Rattle.runs.specs.Walks.{Ending, at, different, equal, full, list_after, turn, walk, walk_from}
use Rattle.runs.proofs.Trees.{Live, list_next}

-- What holds of each number below i, and of i, holds below the next.
below_next : (P : ℕ → Type 0) (i : ℕ) → ((j : ℕ) → j < i → P j) → P i → (j : ℕ) → j < suc i → P j
below_next P i before here j h = ⊎_elim (λ less. before j less) (λ least. let e : i ≡ j = omega arith in subst P e here) (cases_lt j i)

module _ (n k : ℕ) (f g : FlowMeaning) where
  -- The flows agree at every pair below i.
  abbrev pub Agreed : ℕ → Type 0
  Agreed i = (j : ℕ) → j < i → disagree_at f g (at (list_after n k f g j) j) ≡ false

  -- No pair was to be followed before the first.
  pub live_start : Live n k f g 0
  live_start j h = absurd (omega arith)

  -- With pair i there, the pairs below the next were all there.
  pub live_next : (i : ℕ) → Live n k f g i → i < length (list_after n k f g i) → Live n k f g (suc i)
  live_next i live here = below_next (λ j. j < length (list_after n k f g j)) i live here

  -- As many pairs are listed as were followed, or more.
  pub live_length : (i : ℕ) → Live n k f g i → i ≤ length (list_after n k f g i)
  live_length zero live = omega arith
  live_length (suc i) live = omega (arith, live i (omega arith), (list_next n k f g i).0)

  module _ (room : ℕ) where
    -- Equal: all listed pairs were followed, and agree. Different: pair i is the first that does not. Full: more are listed than there is room for.
    abbrev pub Said : Ending → Type 0
    Said (equal count) = Live n k f g count × Agreed count × (length (list_after n k f g count) ≤ count) × (length (list_after n k f g count) ≤ room)
    Said (different i) = Live n k f g (suc i) × Agreed i × (disagree_at f g (at (list_after n k f g i) i) ≡ true)
    Said full = (i : ℕ) × Live n k f g i × (room < length (list_after n k f g i))

    -- So it is with the walk from pair i on, when enough turns are left.
    said_from : (turns i : ℕ) → Live n k f g i → Agreed i → length (list_after n k f g i) ≤ room → room < i + turns → Said (walk_from n k f g room turns i)
    said_from zero i live agreed fits enough = absurd (omega (arith, live_length i live))
    said_from (suc turns) i live agreed fits enough =
        go (ltb i (length (list_after n k f g i))) (disagree_at f g (at (list_after n k f g i) i)) (leb (length (list_after n k f g (suc i))) room) refl refl refl
        (λ live' agreed' fits'. said_from turns (suc i) live' agreed' fits' (omega arith))
      where
        go : (a b c : Bool) → ltb i (length (list_after n k f g i)) ≡ a → disagree_at f g (at (list_after n k f g i) i) ≡ b
            → leb (length (list_after n k f g (suc i))) room ≡ c
            → (Live n k f g (suc i) → Agreed (suc i) → length (list_after n k f g (suc i)) ≤ room → Said (walk_from n k f g room turns (suc i)))
            → Said (turn a b c i (walk_from n k f g room turns (suc i)))
        go false b c x y z rest = (live, agreed, ltb-false i (length (list_after n k f g i)) x, fits)
        go true true c x y z rest = (live_next i live (ltb-true i (length (list_after n k f g i)) x), agreed, y)
        go true false false x y z rest = (suc i, live_next i live (ltb-true i (length (list_after n k f g i)) x), leb-false _ _ z)
        go true false true x y z rest =
            rest (live_next i live (ltb-true i (length (list_after n k f g i)) x))
            (below_next (λ j. disagree_at f g (at (list_after n k f g j) j) ≡ false) i agreed y) (leb-true _ _ z)

    -- The whole walk has turns enough.
    said : Said (walk n k f g room)
    said = go (ltb 0 room) refl
      where
        go : (a : Bool) → ltb 0 room ≡ a → Said (turn true false a 0 (walk_from n k f g room (suc room) 0))
        go false x = (0, live_start, omega (arith, ltb-false 0 room x))
        go true x = said_from (suc room) 0 live_start (λ j h. absurd (omega arith)) (omega (arith, ltb-true 0 room x)) (omega arith)

    -- The ending of a walk says so.
    pub ending_says : (ending : Ending) → walk n k f g room ≡ ending → Said ending
    ending_says ending e = subst Said e said
