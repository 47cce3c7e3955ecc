-- Following a pair along moves that come in rows: one row after the other, and the list only grows. Serves the walk's loops.
use Rattle.std.proofs.Common.{◌≡◌, ℕ, suc, ◌+◌, ◌≤◌, List, [], ◌∷◌, ◌++◌, length, refl, ap, ◌∙◌, le_trans, le_refl, add-one}
use native.Mathlib.Decide.{le_ind}
use Rattle.runs.specs.Flows.{FlowMeaning}
use Rattle.runs.specs.Pairs.{Pair}
use Rattle.runs.specs.Runs.{Move}
use Rattle.runs.specs.Walks.{Listed, followed, put}
use Rattle.runs.proofs.Listing.{followed_front, reached}

module _ (f g : FlowMeaning) (i : ℕ) (p : Pair) where
  -- Following along moves and then along more is following along all of them.
  followed_more : (moves more : List Move) (list : List Listed) → followed f g list i p (moves ++ more) ≡ followed f g (followed f g list i p moves) i p more
  followed_more [] more list = refl
  followed_more (move ∷ moves) more list = followed_more moves more (put list (reached f g i p move))

  -- Rows of moves, each with one part more than the row before.
  module _ (row part : ℕ → List Move) (next : (a : ℕ) → row (suc a) ≡ row a ++ part a) (list : List Listed) where
    -- The next row leads where its last part leads behind the row before.
    pub row_next : (a : ℕ) → followed f g list i p (row (a + 1)) ≡ followed f g (followed f g list i p (row a)) i p (part a)
    row_next a = ap (λ b. followed f g list i p (row b)) (add-one a) ∙ ap (followed f g list i p) (next a) ∙ followed_more (row a) (part a) list

    -- A later row lists no fewer pairs.
    pub row_grows : (a b : ℕ) → a ≤ b → length (followed f g list i p (row a)) ≤ length (followed f g list i p (row b))
    row_grows a b h =
        le_ind (λ c. length (followed f g list i p (row a)) ≤ length (followed f g list i p (row c))) (le_refl _)
        (λ c k before.
        le_trans before (rw (next c, followed_more (row c) (part c) list) (followed_front f g i p (part c) (followed f g list i p (row c))).0))
        b h
