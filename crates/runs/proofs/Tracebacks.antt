-- Moves traced back through a list in which each entry up to a number was met from an earlier one. Serves the loops that count and write a run.
use Rattle.std.proofs.Common.{◌≡◌, ℕ, zero, suc, ◌<◌, ◌≤◌, List, [], ◌∷◌, ◌++◌, get_or, refl, ap, ◌∙◌, arith}
use Rattle.runs.specs.Tracing.{traced_back}
use Rattle.runs.specs.Walks.{Listed, no_listed}

-- Each entry up to number i was met from an earlier one.
abbrev pub Earlier : List Listed → ℕ → Type 0
Earlier list i = (j : ℕ) → 0 < j → j ≤ i → (get_or list j no_listed).from < j

module _ (list : List Listed) (i : ℕ) (earlier : Earlier list i) where
  -- Any steps that are enough give the same moves.
  enough_steps : (a b j : ℕ) → j ≤ i → j ≤ a → j ≤ b → traced_back list a j ≡ traced_back list b j
  enough_steps zero zero j h k l = refl
  enough_steps zero (suc b) zero h k l = refl
  enough_steps zero (suc b) (suc j) h k l = absurd (omega arith)
  enough_steps (suc a) zero zero h k l = refl
  enough_steps (suc a) zero (suc j) h k l = absurd (omega arith)
  enough_steps (suc a) (suc b) zero h k l = refl
  enough_steps (suc a) (suc b) (suc j) h k l =
      let from = (get_or list (suc j) no_listed).from in
      let less : from < suc j = earlier (suc j) (omega arith) h in
      ap (λ moves. moves ++ ((get_or list (suc j) no_listed).move ∷ [])) (enough_steps a b from (omega arith) (omega arith) (omega arith))

  -- The moves to an entry are those to the entry that it was met from, and one more.
  pub one_back : (j : ℕ) → 0 < j → j ≤ i
      → traced_back list j j ≡ traced_back list (get_or list j no_listed).from (get_or list j no_listed).from ++ ((get_or list j no_listed).move ∷ [])
  one_back zero h k = absurd (omega arith)
  one_back (suc j) h k =
      let from = (get_or list (suc j) no_listed).from in
      let less : from < suc j = earlier (suc j) h k in
      ap (λ moves. moves ++ ((get_or list (suc j) no_listed).move ∷ [])) (enough_steps j from from (omega arith) (omega arith) (omega arith))

  -- A list with the same entries up to number i gives the same moves.
  pub same_entries : (other : List Listed) → ((j : ℕ) → j ≤ i → get_or other j no_listed ≡ get_or list j no_listed)
      → (steps j : ℕ) → j ≤ i → traced_back other steps j ≡ traced_back list steps j
  same_entries other same zero j h = refl
  same_entries other same (suc steps) zero h = refl
  same_entries other same (suc steps) (suc j) h =
      let from = (get_or list (suc j) no_listed).from in
      let less : from < suc j = earlier (suc j) (omega arith) h in
      ap (λ (entry : Listed). traced_back other steps entry.from ++ (entry.move ∷ [])) (same (suc j) h)
      ∙ ap (λ moves. moves ++ ((get_or list (suc j) no_listed).move ∷ [])) (same_entries other same steps from (omega arith))
