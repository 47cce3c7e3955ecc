-- Each node has the masks of the term that it stands for, where its parts have those of theirs.
use Rattle.std.proofs.Common.{◌≡◌, ℕ, ◌-◌, ◌^◌, ◌<◌, ◌≤◌, Bool, true, false, cond, ◌&&◌, ◌||◌, eqb, sym, refl, ap, ◌∙◌, ap₂}
use lib.Bits.{bit_and, bit_or}
use Rattle.masks.specs.Bits.{bit, bits_below}
use Rattle.masks.proofs.Bits.{bit_of_bits, same_bits}
use Rattle.kat.specs.Places.{begins, is_place_of, passes, places_in}
use Rattle.kat.specs.Terms.{Term}
use Rattle.kat.specs.Terms as term
use Rattle.rules.specs.Nodes.{term_at}
use Rattle.rules.specs.declared.node.Node.{Node}
use Rattle.rules.specs.declared.node.Node.TheVariants.{Empty, Test, Action, Skip, Stop, Not, Choice, Chain, Star}
use Rattle.tables.specs.Masks.{action_mask, end_mask, first_mask, follow_mask, last_mask, next_mask, pass_mask}
use Rattle.tables.specs.Parts.{action_node, first_node, last_node, next_node, pass_node}
use Rattle.tables.specs.Remainders.{ends_at, goes_on}
use Rattle.tables.proofs.Bools.{and_swap}
use Rattle.tables.proofs.Remainders.{ends_act, ends_chain, ends_choice, ends_star, goes_act, goes_chain, goes_choice, goes_star, own_act, own_chain, own_choice, own_star}
use Rattle.tables.proofs.Unions.{bits_and, bits_no, bits_not, bits_one, bits_or, bits_when}

-- Each number of the family is the mask of the term at the same place.
abbrev pub Has : (Term → ℕ) → (ℕ → ℕ) → (ℕ → Term) → Type 0
Has mask part at = (k : ℕ) → part k ≡ mask (at k)

module _ (n : ℕ) (holds : ℕ → ℕ → Bool) (at : ℕ → Term) (pass : ℕ → ℕ) (passing : Has (pass_mask n holds) pass at) where
  -- The situations in which it passes.
  pub pass_node_lem : n ≤ 64 → (node : Node) → pass_node (bits_below (λ s. true) n) (λ t. bits_below (holds t) n) pass node ≡ pass_mask n holds (term_at at node)
  pass_node_lem h Empty = bits_no n
  pass_node_lem h (Test t) = refl
  pass_node_lem h (Action a p) = bits_no n
  pass_node_lem h Skip = refl
  pass_node_lem h Stop = bits_no n
  pass_node_lem h (Not a) = ap (λ x. bit_and (bits_below (λ s. true) n) (2 ^ 64 - 1 - x)) (passing a) ∙ bits_not (passes holds (at a)) n h
  pass_node_lem h (Choice a b) = ap₂ bit_or (passing a) (passing b) ∙ bits_or (passes holds (at a)) (passes holds (at b)) n
  pass_node_lem h (Chain a b) = ap₂ bit_and (passing a) (passing b) ∙ bits_and (passes holds (at a)) (passes holds (at b)) n
  pass_node_lem h (Star a) = refl

  module _ (s : ℕ) (within : s < n) where
    -- A mask that is taken where a part passes.
    where_passes : (a x : ℕ) (f : ℕ → Bool) → x ≡ bits_below f 64 → cond (bit s (pass a)) x 0 ≡ bits_below (λ q. passes holds (at a) s && f q) 64
    where_passes a x f is =
        ap₂ (λ b y. cond b y 0) (ap (bit s) (passing a) ∙ bit_of_bits (passes holds (at a)) n s within) is ∙ bits_when (passes holds (at a) s) f 64

    -- The places that it begins with.
    pub first_node_lem : (first : ℕ → ℕ) → Has (first_mask holds s) first at → (node : Node) → first_node s pass first node ≡ first_mask holds s (term_at at node)
    first_node_lem first firsts Empty = bits_no 64
    first_node_lem first firsts (Test t) = bits_no 64
    first_node_lem first firsts (Action a p) = bits_one p
    first_node_lem first firsts Skip = bits_no 64
    first_node_lem first firsts Stop = bits_no 64
    first_node_lem first firsts (Not a) = bits_no 64
    first_node_lem first firsts (Choice a b) = ap₂ bit_or (firsts a) (firsts b) ∙ bits_or (begins holds (at a) s) (begins holds (at b) s) 64
    first_node_lem first firsts (Chain a b) =
        ap₂ bit_or (firsts a) (where_passes a (first b) (begins holds (at b) s) (firsts b)) ∙ bits_or (begins holds (at a) s) (λ q. passes holds (at a) s && begins holds (at b) s q) 64
    first_node_lem first firsts (Star a) = firsts a

    -- The places behind which it may end.
    pub last_node_lem : (last : ℕ → ℕ) → Has (last_mask holds s) last at → (node : Node) → last_node s pass last node ≡ last_mask holds s (term_at at node)
    last_node_lem last lasts Empty = bits_no 64
    last_node_lem last lasts (Test t) = bits_no 64
    last_node_lem last lasts (Action a p) = bits_one p ∙ same_bits (λ q. eqb p q) (ends_at holds (term.act a p) s) 64 (λ q h. sym (ends_act holds s q a p))
    last_node_lem last lasts Skip = bits_no 64
    last_node_lem last lasts Stop = bits_no 64
    last_node_lem last lasts (Not a) = bits_no 64
    last_node_lem last lasts (Choice a b) =
        ap₂ bit_or (lasts a) (lasts b) ∙ bits_or (ends_at holds (at a) s) (ends_at holds (at b) s) 64
        ∙ same_bits (λ q. ends_at holds (at a) s q || ends_at holds (at b) s q) (ends_at holds (term.choice (at a) (at b)) s) 64 (λ q h. sym (ends_choice holds s q (at a) (at b)))
    last_node_lem last lasts (Chain a b) =
        ap₂ bit_or (where_passes b (last a) (ends_at holds (at a) s) (lasts a)) (lasts b)
        ∙ bits_or (λ q. passes holds (at b) s && ends_at holds (at a) s q) (ends_at holds (at b) s) 64
        ∙ same_bits (λ q. (passes holds (at b) s && ends_at holds (at a) s q) || ends_at holds (at b) s q) (ends_at holds (term.chain (at a) (at b)) s) 64
        (λ q h. ap (λ x. x || ends_at holds (at b) s q) (and_swap (passes holds (at b) s) (ends_at holds (at a) s q)) ∙ sym (ends_chain holds s q (at a) (at b)))
    last_node_lem last lasts (Star a) = lasts a ∙ same_bits (ends_at holds (at a) s) (ends_at holds (term.star (at a)) s) 64 (λ q h. sym (ends_star holds s q (at a)))

module _ (holds : ℕ → ℕ → Bool) (at : ℕ → Term) (s p : ℕ) (few : p < 64) (first last : ℕ → ℕ) (firsts : Has (first_mask holds s) first at) (lasts : Has (last_mask holds s) last at) where
  -- A mask that is taken where a part may end behind the place.
  where_ends : (a b : ℕ) → cond (bit p (last a)) (first b) 0 ≡ bits_below (λ q. ends_at holds (at a) s p && begins holds (at b) s q) 64
  where_ends a b =
      ap₂ (λ c y. cond c y 0) (ap (bit p) (lasts a) ∙ bit_of_bits (ends_at holds (at a) s) 64 p few) (firsts b) ∙ bits_when (ends_at holds (at a) s p) (begins holds (at b) s) 64

  -- The places to which it may go on from the place.
  pub next_node_lem : (next : ℕ → ℕ) → Has (next_mask holds s p) next at → (node : Node) → next_node p first last next node ≡ next_mask holds s p (term_at at node)
  next_node_lem next nexts Empty = bits_no 64
  next_node_lem next nexts (Test t) = bits_no 64
  next_node_lem next nexts (Action a r) = bits_no 64 ∙ same_bits (λ q. false) (goes_on holds (term.act a r) s p) 64 (λ q h. sym (goes_act holds s p a r q))
  next_node_lem next nexts Skip = bits_no 64
  next_node_lem next nexts Stop = bits_no 64
  next_node_lem next nexts (Not a) = bits_no 64
  next_node_lem next nexts (Choice a b) =
      ap₂ bit_or (nexts a) (nexts b) ∙ bits_or (goes_on holds (at a) s p) (goes_on holds (at b) s p) 64
      ∙ same_bits (λ q. goes_on holds (at a) s p q || goes_on holds (at b) s p q) (goes_on holds (term.choice (at a) (at b)) s p) 64 (λ q h. sym (goes_choice holds s p (at a) (at b) q))
  next_node_lem next nexts (Chain a b) =
      ap₂ bit_or (ap₂ bit_or (nexts a) (where_ends a b) ∙ bits_or (goes_on holds (at a) s p) (λ q. ends_at holds (at a) s p && begins holds (at b) s q) 64) (nexts b)
      ∙ bits_or (λ q. goes_on holds (at a) s p q || (ends_at holds (at a) s p && begins holds (at b) s q)) (goes_on holds (at b) s p) 64
      ∙ same_bits (λ q. (goes_on holds (at a) s p q || (ends_at holds (at a) s p && begins holds (at b) s q)) || goes_on holds (at b) s p q) (goes_on holds (term.chain (at a) (at b)) s p) 64
      (λ q h. sym (goes_chain holds s p (at a) (at b) q))
  next_node_lem next nexts (Star a) =
      ap₂ bit_or (nexts a) (where_ends a a) ∙ bits_or (goes_on holds (at a) s p) (λ q. ends_at holds (at a) s p && begins holds (at a) s q) 64
      ∙ same_bits (λ q. goes_on holds (at a) s p q || (ends_at holds (at a) s p && begins holds (at a) s q)) (goes_on holds (term.star (at a)) s p) 64 (λ q h. sym (goes_star holds s p (at a) q))

module _ (action : ℕ) (at : ℕ → Term) (own : ℕ → ℕ) (owns : Has (action_mask action) own at) where
  own_in : Term → ℕ → Bool
  own_in e q = is_place_of action q (places_in e)

  -- The places of the action in it.
  pub action_node_lem : (node : Node) → action_node action own node ≡ action_mask action (term_at at node)
  unfolding own_in
  action_node_lem Empty = bits_no 64
  action_node_lem (Test t) = bits_no 64
  action_node_lem (Action b p) =
      ap (λ x. cond (eqb b action) x 0) (bits_one p) ∙ bits_when (eqb b action) (λ q. eqb p q) 64
      ∙ same_bits (λ q. eqb b action && eqb p q) (own_in (term.act b p)) 64 (λ q h. sym (own_act action q b p))
  action_node_lem Skip = bits_no 64
  action_node_lem Stop = bits_no 64
  action_node_lem (Not b) = bits_no 64
  action_node_lem (Choice b c) =
      ap₂ bit_or (owns b) (owns c) ∙ bits_or (own_in (at b)) (own_in (at c)) 64
      ∙ same_bits (λ q. own_in (at b) q || own_in (at c) q) (own_in (term.choice (at b) (at c))) 64 (λ q h. sym (own_choice action q (at b) (at c)))
  action_node_lem (Chain b c) =
      ap₂ bit_or (owns b) (owns c) ∙ bits_or (own_in (at b)) (own_in (at c)) 64
      ∙ same_bits (λ q. own_in (at b) q || own_in (at c) q) (own_in (term.chain (at b) (at c))) 64 (λ q h. sym (own_chain action q (at b) (at c)))
  action_node_lem (Star b) = owns b ∙ same_bits (own_in (at b)) (own_in (term.star (at b))) 64 (λ q h. sym (own_star action q (at b)))

-- With the start among the places.
module _ (holds : ℕ → ℕ → Bool) (s : ℕ) (e : Term) where
  -- Behind the start a term may end where it passes.
  pub end_root : bit_or (cond (passes holds e s) 1 0) (last_mask holds s e) ≡ end_mask holds s e
  end_root =
      ap (λ x. bit_or x (last_mask holds s e)) (ap (λ x. cond (passes holds e s) x 0) (bits_one 0) ∙ bits_when (passes holds e s) (λ p. eqb 0 p) 64)
      ∙ bits_or (λ p. passes holds e s && eqb 0 p) (ends_at holds e s) 64
      ∙ same_bits (λ p. (passes holds e s && eqb 0 p) || ends_at holds e s p) (λ p. (eqb 0 p && passes holds e s) || ends_at holds e s p) 64
      (λ p h. ap (λ b. b || ends_at holds e s p) (and_swap (passes holds e s) (eqb 0 p)))

  -- From the start a term goes on to where it begins.
  pub follow_root : (p : ℕ) → bit_or (cond (eqb 0 p) (first_mask holds s e) 0) (next_mask holds s p e) ≡ follow_mask holds s p e
  follow_root p =
      ap (λ x. bit_or x (next_mask holds s p e)) (bits_when (eqb 0 p) (begins holds e s) 64)
      ∙ bits_or (λ q. eqb 0 p && begins holds e s q) (goes_on holds e s p) 64
