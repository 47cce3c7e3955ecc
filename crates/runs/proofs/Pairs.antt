-- Pairs: sameness and agreement as tests and as equations, and what moves lead to.
use Rattle.std.proofs.Common.{◌≡◌, true, false, not, eqb, List, [], ◌∷◌, ◌++◌, refl, ap}
use Rattle.std.proofs.lemmas.Bool.{and_parts, and_from, eqb-true, eqb-false, eq-eqb, not-true, not-false}
use Rattle.runs.specs.Flows.{FlowMeaning, after}
use Rattle.runs.specs.Pairs.{Pair, disagree_at, next_pair, pair_after, same_pair}
use Rattle.runs.specs.Runs.{Move}

-- Pairs that pass the test are equal.
pub same_pair_equal : (p q : Pair) → same_pair p q ≡ true → p ≡ q
same_pair_equal p q same =
    let both = and_parts (eqb p.left q.left) (eqb p.right q.right) same in
    let lefts = eqb-true p.left q.left both.0 in
    let rights = eqb-true p.right q.right both.1 in
    λ i. record { left = lefts i; right = rights i }

-- Equal pairs pass the test.
pub equal_same_pair : (p q : Pair) → p ≡ q → same_pair p q ≡ true
equal_same_pair p q e = and_from _ _ (eq-eqb _ _ (ap (λ (x : Pair). x.left) e)) (eq-eqb _ _ (ap (λ (x : Pair). x.right) e))

-- Where the flows do not disagree, their masks are equal.
pub masks_agree : (f g : FlowMeaning) (p : Pair) → disagree_at f g p ≡ false → f.accept p.left ≡ g.accept p.right
masks_agree f g p h = eqb-true _ _ (not-false _ h)

-- Where they disagree, their masks are not.
pub masks_differ : (f g : FlowMeaning) (p : Pair) → disagree_at f g p ≡ true → f.accept p.left ≡ g.accept p.right → ⊥
masks_differ f g p h = eqb-false _ _ (not-true _ h)

-- Where the masks are equal, the flows do not disagree.
pub equal_masks_agree : (f g : FlowMeaning) (p : Pair) → f.accept p.left ≡ g.accept p.right → disagree_at f g p ≡ false
equal_masks_agree f g p e = ap not (eq-eqb _ _ e)

-- The pair after moves is the pair of the codes after them.
pub pair_of_codes : (f g : FlowMeaning) (moves : List Move) (p : Pair)
    → pair_after f g p moves ≡ record { left = after f p.left moves; right = after g p.right moves }
pair_of_codes f g [] p = refl
pair_of_codes f g (move ∷ moves) p = pair_of_codes f g moves (next_pair f g p move)

-- One move more leads one pair further.
pub pair_after_one_more : (f g : FlowMeaning) (p : Pair) (moves : List Move) (move : Move)
    → pair_after f g p (moves ++ (move ∷ [])) ≡ next_pair f g (pair_after f g p moves) move
pair_after_one_more f g p [] move = refl
pair_after_one_more f g p (first ∷ moves) move = pair_after_one_more f g (next_pair f g p first) moves move
