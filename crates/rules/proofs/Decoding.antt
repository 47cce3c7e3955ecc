-- A term is read back from the nodes that it was laid out in.
use Rattle.std.proofs.Common.{◌≡◌, ℕ, zero, suc, ◌+◌, ◌-◌, ◌<◌, ◌≤◌, List, [], ◌∷◌, ◌++◌, length, get_or, refl, ap, ◌∙◌, ap₂, arith, length-append}
use Rattle.std.proofs.lemmas.List.{get_or-append-add, get_or_append_left}
use Rattle.kat.specs.Terms.{Term, act, chain, choice, size, skip, star, stop, test}
use Rattle.kat.specs.Terms as term
use Rattle.rules.specs.Nodes.{LaidOutDecodes, decode_by, flat, root_at, term_at}
use Rattle.rules.specs.declared.node.Node.{Node}
use Rattle.rules.specs.declared.node.Node.TheVariants.{Empty, Test, Action, Skip, Stop, Not, Choice, Chain, Star}
use Rattle.rules.proofs.Shapes.{length_flat, size_pos}

-- the nodes hold a list from a place on
Holds : List Node → ℕ → List Node → Type 0
Holds nodes base part = (k : ℕ) → k < length part → get_or nodes (base + k) Empty ≡ get_or part k Empty

module _ (nodes : List Node) (base : ℕ) where
  -- the first of two parts, and the second
  holds_left : (xs ys : List Node) → Holds nodes base (xs ++ ys) → Holds nodes base xs
  unfolding Holds
  holds_left xs ys h k lt = h k (simp length-append (omega arith)) ∙ get_or_append_left xs ys Empty k lt

  holds_right : (xs ys : List Node) (n : ℕ) → length xs ≡ n → Holds nodes base (xs ++ ys) → Holds nodes (base + n) ys
  unfolding Holds
  holds_right xs ys n e h k lt =
      ap (λ i. get_or nodes i Empty) (omega (arith, e)) ∙ h (length xs + k) (simp length-append (omega arith)) ∙ get_or-append-add xs ys k Empty

  -- the node at a place that ends there
  holds_one : (node : Node) (root : ℕ) → root ≡ base → Holds nodes base (node ∷ []) → get_or nodes root Empty ≡ node
  unfolding Holds
  holds_one node root e h = ap (λ i. get_or nodes i Empty) (omega (arith, e)) ∙ h 0 (omega arith)

-- from the root down, where a part in front of its root is seen as what stands at its place
module _ (seen : ℕ → (ℕ → Term) → ℕ → Term) (sees : (part : ℕ → Term) (place root : ℕ) → place < root → seen root part place ≡ part place) where
  read_part : (part : ℕ → Term) (place root : ℕ) (e : Term) → place < root → part place ≡ e → seen root part place ≡ e
  read_part part place root e lt is = sees part place root lt ∙ is

  read_back : (e : Term) (nodes : List Node) (base fuel : ℕ) → size e ≤ fuel → Holds nodes base (flat base e) → decode_by seen fuel nodes (root_at base e) ≡ e
  read_back e nodes base zero le h = let pos = size_pos e in absurd (omega arith)
  read_back (test t) nodes base (suc fuel) le h = ap (term_at (seen (base + 1 - 1) (decode_by seen fuel nodes))) (holds_one nodes base (Test t) (base + 1 - 1) (omega arith) h)
  read_back (act a p) nodes base (suc fuel) le h = ap (term_at (seen (base + 1 - 1) (decode_by seen fuel nodes))) (holds_one nodes base (Action a p) (base + 1 - 1) (omega arith) h)
  read_back skip nodes base (suc fuel) le h = ap (term_at (seen (base + 1 - 1) (decode_by seen fuel nodes))) (holds_one nodes base Skip (base + 1 - 1) (omega arith) h)
  read_back stop nodes base (suc fuel) le h = ap (term_at (seen (base + 1 - 1) (decode_by seen fuel nodes))) (holds_one nodes base Stop (base + 1 - 1) (omega arith) h)
  read_back (term.not e) nodes base (suc fuel) le h =
      let root = Not (root_at base e) ∷ [] in
      let here = holds_one nodes (base + size e) (Not (root_at base e)) (base + (size e + 1) - 1) (omega arith) (holds_right nodes base (flat base e) root (size e) (length_flat base e) h) in
      ap (term_at (seen (base + (size e + 1) - 1) (decode_by seen fuel nodes))) here ∙ ap term.not (read_part (decode_by seen fuel nodes) (root_at base e) (base + (size e + 1) - 1) e (omega (arith, size_pos e)) (read_back e nodes base fuel (omega arith) (holds_left nodes base (flat base e) root h)))
  read_back (star e) nodes base (suc fuel) le h =
      let root = Star (root_at base e) ∷ [] in
      let here = holds_one nodes (base + size e) (Star (root_at base e)) (base + (size e + 1) - 1) (omega arith) (holds_right nodes base (flat base e) root (size e) (length_flat base e) h) in
      ap (term_at (seen (base + (size e + 1) - 1) (decode_by seen fuel nodes))) here ∙ ap star (read_part (decode_by seen fuel nodes) (root_at base e) (base + (size e + 1) - 1) e (omega (arith, size_pos e)) (read_back e nodes base fuel (omega arith) (holds_left nodes base (flat base e) root h)))
  read_back (choice e f) nodes base (suc fuel) le h =
      let root = Choice (root_at base e) (root_at (base + size e) f) ∷ [] in
      let second = flat (base + size e) f in
      let behind = holds_right nodes base (flat base e) (second ++ root) (size e) (length_flat base e) h in
      let here = holds_one nodes (base + size e + size f) (Choice (root_at base e) (root_at (base + size e) f)) (base + (size e + size f + 1) - 1) (omega arith) (holds_right nodes (base + size e) second root (size f) (length_flat (base + size e) f) behind) in
      ap (term_at (seen (base + (size e + size f + 1) - 1) (decode_by seen fuel nodes))) here
      ∙ ap₂ choice
      (read_part (decode_by seen fuel nodes) (root_at base e) (base + (size e + size f + 1) - 1) e (omega (arith, size_pos e)) (read_back e nodes base fuel (omega arith) (holds_left nodes base (flat base e) (second ++ root) h)))
      (read_part (decode_by seen fuel nodes) (root_at (base + size e) f) (base + (size e + size f + 1) - 1) f (omega (arith, size_pos f)) (read_back f nodes (base + size e) fuel (omega arith) (holds_left nodes (base + size e) second root behind)))
  read_back (chain e f) nodes base (suc fuel) le h =
      let root = Chain (root_at base e) (root_at (base + size e) f) ∷ [] in
      let second = flat (base + size e) f in
      let behind = holds_right nodes base (flat base e) (second ++ root) (size e) (length_flat base e) h in
      let here = holds_one nodes (base + size e + size f) (Chain (root_at base e) (root_at (base + size e) f)) (base + (size e + size f + 1) - 1) (omega arith) (holds_right nodes (base + size e) second root (size f) (length_flat (base + size e) f) behind) in
      ap (term_at (seen (base + (size e + size f + 1) - 1) (decode_by seen fuel nodes))) here
      ∙ ap₂ chain
      (read_part (decode_by seen fuel nodes) (root_at base e) (base + (size e + size f + 1) - 1) e (omega (arith, size_pos e)) (read_back e nodes base fuel (omega arith) (holds_left nodes base (flat base e) (second ++ root) h)))
      (read_part (decode_by seen fuel nodes) (root_at (base + size e) f) (base + (size e + size f + 1) - 1) f (omega (arith, size_pos f)) (read_back f nodes (base + size e) fuel (omega arith) (holds_left nodes (base + size e) second root behind)))

  pub laid_out_read : (e : Term) (rest : List Node) → decode_by seen (suc (size e - 1)) (flat 0 e ++ rest) (size e - 1) ≡ e
  unfolding Holds
  laid_out_read e rest =
      let pos = size_pos e in
      let same : size e - 1 ≡ root_at 0 e = omega arith in
      let held : Holds (flat 0 e ++ rest) 0 (flat 0 e) = λ k lt. ap (λ i. get_or (flat 0 e ++ rest) i Empty) (omega arith) ∙ get_or_append_left (flat 0 e) rest Empty k lt in
      let fits : size e ≤ suc (size e - 1) = omega arith in
      ap (decode_by seen (suc (size e - 1)) (flat 0 e ++ rest)) same ∙ read_back e (flat 0 e ++ rest) 0 (suc (size e - 1)) fits held

pub laid_out_decodes : LaidOutDecodes
laid_out_decodes e rest = laid_out_read (λ from part. part) (λ part place root lt. refl) e rest
