-- Moves that come in rows lead from a pair into a list where each part of the row does. Serves the check of a list.
use Rattle.std.proofs.Common.{◌≡◌, ℕ, zero, suc, ◌+◌, Bool, ◌&&◌, List, [], ◌∷◌, ◌++◌, sym, refl, ap, ◌∙◌, arith}
use Rattle.std.proofs.Math.Bool.{and-true, and_assoc}
use Rattle.std.specs.List.{list_all, range_with_len}
use Rattle.std.proofs.lemmas.List.Folds.{list_all-append}
use Rattle.runs.specs.Checks.{leads_into}
use Rattle.runs.specs.Flows.{FlowMeaning}
use Rattle.runs.specs.Pairs.{Pair, is_among, next_pair}
use Rattle.runs.specs.Runs.{Move}

-- One number more.
range_more : (a n j : ℕ) → a + n ≡ j → range_with_len a (suc n) ≡ range_with_len a n ++ (j ∷ [])
range_more a zero j e = ap (λ k. k ∷ []) (omega arith)
range_more a (suc n) j e = ap (λ ks. a ∷ ks) (range_more (a + 1) n j (omega arith))

module _ (f g : FlowMeaning) (list : List Pair) (p : Pair) where
  -- Moves and more moves lead into the list where both do.
  leads_more : (moves more : List Move) → leads_into f g list p (moves ++ more) ≡ (leads_into f g list p moves && leads_into f g list p more)
  leads_more [] more = refl
  leads_more (move ∷ moves) more = ap (λ b. is_among (next_pair f g p move) list && b) (leads_more moves more) ∙ sym (and_assoc (is_among (next_pair f g p move) list) _ _)

  -- Each row has one part more than the row before.
  module _ (row part : ℕ → List Move) (none : row 0 ≡ []) (next : (a : ℕ) → row (suc a) ≡ row a ++ part a) where
    abbrev here : ℕ → Bool
    here a = leads_into f g list p (part a)

    parts : (n : ℕ) → list_all here (range_with_len 0 n) ≡ leads_into f g list p (row n)
    parts zero = ap (leads_into f g list p) (sym none)
    parts (suc n) =
        ap (list_all here) (range_more 0 n n (omega arith)) ∙ list_all-append here (range_with_len 0 n) (n ∷ []) ∙ (λ j. parts n j && and-true (here n) j)
        ∙ sym (ap (leads_into f g list p) (next n) ∙ leads_more (row n) (part n))

    pub parts_lead : (n m : ℕ) → n ≡ m → {r : Bool} → r ≡ list_all here (range_with_len 0 n) → r ≡ leads_into f g list p (row m)
    parts_lead n m e all = all ∙ parts n ∙ ap (λ k. leads_into f g list p (row k)) e
