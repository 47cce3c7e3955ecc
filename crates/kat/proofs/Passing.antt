-- A term passes in a situation exactly when it allows the run of that situation alone.
use Rattle.std.proofs.Common.{◌≡◌, ℕ, List, [], ◌∷◌, ◌++◌, sym, refl, ap, ◌∙◌, subst, inl, inr, ⊎_elim}
use Rattle.std.proofs.lemmas.Bool.{true≢false, false≢true, and_parts, and_from, or_cases, or_left, or_right, not-true, cases_Bool, not_from_false}
use Rattle.runs.specs.Runs.{Move, Run, first_of, joined, one_action, single}
use Rattle.kat.specs.Algebra.{Allowed, Joined}
use Rattle.kat.specs.Places.{passes}
use Rattle.kat.specs.Terms.{act, chain, choice, skip, star, stop, test}
use Rattle.kat.specs.Terms as term
use Rattle.kat.specs.Theorems.{PassesIsAllowed}
use Rattle.kat.proofs.Joining.{Runs, run_of}

-- A run of no moves.
abbrev pub NoMoves : List Move → Type 0
NoMoves [] = Unit {0}
NoMoves (m ∷ moves) = ⊥

-- No moves are no moves of either part.
append_none : (xs ys : List Move) → NoMoves (xs ++ ys) → (xs ≡ []) × (ys ≡ [])
append_none [] [] h = (refl, refl)
append_none [] (y ∷ ys) h = absurd h
append_none (x ∷ xs) ys h = absurd h

-- The parts of a single situation are that situation.
single_parts : (x y : Run) (s : ℕ) → x.last ≡ first_of y → single s ≡ joined x y → (x ≡ single s) × (y ≡ single s)
single_parts x y s meet whole =
    let none = append_none x.moves y.moves (subst (λ (run : Run). NoMoves run.moves) whole tt) in
    let ends : y.last ≡ s = sym (ap (λ (run : Run). run.last) whole) in
    let second : y ≡ single s = λ i. run_of (none.1 i) (ends i) in
    let between : x.last ≡ s = meet ∙ ap (λ (run : Run). first_of run) second in
    (λ i. run_of (none.0 i) (between i), second)

-- What is joined to a single situation is that situation, in both sets.
single_joined : (P Q : Runs) (s : ℕ) → Joined P Q (single s) → P (single s) × Q (single s)
single_joined P Q s (x, y, p, q, meet, whole) =
    let parts = single_parts x y s meet whole in
    (subst P parts.0 p, subst Q parts.1 q)

-- A run of one action is no single situation.
action_moves : (s r a t : ℕ) → single s ≡ one_action r a t → ⊥
action_moves s r a t e = subst (λ (run : Run). NoMoves run.moves) e tt

-- Single situations that are the same run are the same situation.
single_last_is : (s t : ℕ) → single s ≡ single t → s ≡ t
single_last_is s t e = ap (λ (run : Run). run.last) e

-- By induction on the term: both ways at once, since a negation turns them round.
pub passes_is_allowed : PassesIsAllowed
passes_is_allowed holds (test t) s =
    (λ h. (s, refl, h), λ l. ap (holds t) (single_last_is s l.0 l.1) ∙ l.2)
passes_is_allowed holds (act a p) s = (λ h. absurd (false≢true h), λ l. absurd (action_moves s l.0 a l.1 l.2))
passes_is_allowed holds skip s = (λ h. (s, refl), λ l. refl)
passes_is_allowed holds stop s = (λ h. absurd (false≢true h), λ l. absurd l)
passes_is_allowed holds (term.not e) s =
    let it = passes_is_allowed holds e s in (
      λ h. (s, refl, λ l. true≢false (sym (it.1 l) ∙ not-true (passes holds e s) h)),
      λ l. ⊎_elim
          (λ h. absurd (l.2 (subst (λ r. Allowed holds e (single r)) (single_last_is s l.0 l.1) (it.0 h))))
          (λ h. not_from_false (passes holds e s) h)
          (cases_Bool (passes holds e s)),
    )
passes_is_allowed holds (choice e f) s =
    let one = passes_is_allowed holds e s in
    let other = passes_is_allowed holds f s in (
      λ h. ⊎_elim (λ a. inl (one.0 a)) (λ b. inr (other.0 b)) (or_cases (passes holds e s) (passes holds f s) h),
      λ l. ⊎_elim (λ a. or_left _ _ (one.1 a)) (λ b. or_right _ _ (other.1 b)) l,
    )
passes_is_allowed holds (chain e f) s =
    let one = passes_is_allowed holds e s in
    let other = passes_is_allowed holds f s in (
      λ h.
          let both = and_parts (passes holds e s) (passes holds f s) h in
          (single s, single s, one.0 both.0, other.0 both.1, refl, refl),
      λ l.
          let both = single_joined (Allowed holds e) (Allowed holds f) s l in
          and_from _ _ (one.1 both.0) (other.1 both.1),
    )
passes_is_allowed holds (star e) s = (λ h. (0, (s, refl)), λ l. refl)
