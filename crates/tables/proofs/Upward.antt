-- A pass over the nodes from the first on: each node's mask is told from those of the nodes in front of it.
use Rattle.std.proofs.Common.{◌≡◌, ℕ, zero, suc, ◌<◌, ◌≤◌, List, length, get_or, take, sym, ap, ◌∙◌, ⊎_elim, arith, length-take}
use Rattle.std.proofs.lemmas.List.{get_or-take, get_or_past}
use Rattle.std.proofs.lemmas.Bool.{cases_lt, cond-false, cond-true, le-ltb, lt-ltb}
use Rattle.kat.specs.Terms.{Term, stop}
use Rattle.rules.specs.Nodes.{term_at}
use Rattle.tables.specs.Decoded.{decode, decode_with, in_front}
use Rattle.rules.specs.declared.node.Node.{Node}
use Rattle.rules.specs.declared.node.Node.TheVariants.{Empty}
use Rattle.tables.specs.Masks.{Tells}
use Rattle.tables.proofs.Nodes.{Has}

-- What stands in front is the same where the parts in front are.
same_in_front : (f g : ℕ → Term) (root k : ℕ) → (k < root → f k ≡ g k) → in_front root f k ≡ in_front root g k
same_in_front f g root k same =
    ⊎_elim
    (λ (h : k < root). cond-true _ _ _ (lt-ltb k root h) ∙ same h ∙ sym (cond-true _ _ _ (lt-ltb k root h)))
    (λ (h : root ≤ k). cond-false _ _ _ (le-ltb k root h) ∙ sym (cond-false _ _ _ (le-ltb k root h)))
    (cases_lt k root)

-- Fuel beyond what is needed changes nothing.
fuel_enough : (f g : ℕ) (nodes : List Node) (k : ℕ) → k < f → k < g → decode_with f nodes k ≡ decode_with g nodes k
fuel_enough zero g nodes k h h' = absurd (omega arith)
fuel_enough (suc f) zero nodes k h h' = absurd (omega arith)
fuel_enough (suc f) (suc g) nodes k h h' =
    ap (λ part. term_at part (get_or nodes k Empty))
    (λ i j. same_in_front (decode_with f nodes) (decode_with g nodes) k j (λ lt. fuel_enough f g nodes j (omega arith) (omega arith)) i)

-- A node stands for the term that it makes of those of the nodes in front of it.
pub decode_step : (nodes : List Node) (i : ℕ) → decode nodes i ≡ term_at (in_front i (decode nodes)) (get_or nodes i Empty)
decode_step nodes i =
    ap (λ part. term_at part (get_or nodes i Empty))
    (λ x j. same_in_front (decode_with i nodes) (decode nodes) i j (λ lt. fuel_enough i (suc j) nodes j lt (omega arith)) x)

-- The mask of a part, among those of the nodes in front of node k.
abbrev pub part_in : List ℕ → ℕ → ℕ → ℕ
part_in masks k part = get_or (take k masks) part 0

module _ (mask : Term → ℕ) (nothing : mask stop ≡ 0) (nodes : List Node) (masks : List ℕ) where
  -- Where the masks of the nodes in front of node k are known, so are those of its parts.
  pub part_known : (k : ℕ) → ((p : ℕ) → p < k → get_or masks p 0 ≡ mask (decode nodes p)) → (p : ℕ) → part_in masks k p ≡ mask (in_front k (decode nodes) p)
  part_known k known p =
      ⊎_elim
      (λ (h : p < k). get_or-take k masks p 0 h ∙ known p h ∙ ap mask (sym (cond-true _ _ _ (lt-ltb p k h))))
      (λ (h : k ≤ p).
      let short = length-take k masks in
      get_or_past (take k masks) p 0 (omega arith) ∙ sym nothing ∙ ap mask (sym (cond-false _ _ _ (le-ltb p k h))))
      (cases_lt p k)

  -- Behind the nodes nothing stands.
  beyond : (k : ℕ) → length nodes ≤ k → mask (decode nodes k) ≡ 0
  beyond k h = ap (λ node. mask (term_at (in_front k (decode_with k nodes)) node)) (get_or_past nodes k Empty h) ∙ nothing

  module _ (step : ℕ → (ℕ → ℕ) → Node → ℕ)
      (told : (k : ℕ) → k < length nodes → get_or masks k 0 ≡ step k (part_in masks k) (get_or nodes k Empty))
      (blank : (k : ℕ) → length nodes ≤ k → get_or masks k 0 ≡ 0)
      (right : (k : ℕ) (part : ℕ → ℕ) → Has mask part (in_front k (decode nodes)) → (node : Node) → step k part node ≡ mask (term_at (in_front k (decode nodes)) node)) where
    -- Where a step tells each node's mask rightly from right masks of its parts, the first n masks are right.
    right_below : (n k : ℕ) → k < n → get_or masks k 0 ≡ mask (decode nodes k)
    right_below zero k h = absurd (omega arith)
    right_below (suc n) k h =
        ⊎_elim
        (λ (inside : k < length nodes).
        told k inside
        ∙ right k (part_in masks k) (part_known k (λ p lt. right_below n p (omega arith))) (get_or nodes k Empty)
        ∙ ap mask (sym (decode_step nodes k)))
        (λ (past : length nodes ≤ k). blank k past ∙ sym (beyond k past))
        (cases_lt k (length nodes))

    -- So all are.
    pub upward : Tells mask nodes masks
    upward k = right_below (suc k) k (omega arith)
