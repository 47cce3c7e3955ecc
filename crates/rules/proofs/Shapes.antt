-- Parts as they are built, on values alone: where a reading comes from, and what one node more makes of it.
use Rattle.std.proofs.Common.{◌≡◌, ℕ, suc, ◌+◌, ◌<◌, Bool, true, List, [], ◌∷◌, ◌++◌, length, set, None, Ok, Err, Option, Result, sym, refl, ap, ◌∙◌, add-zero, add-suc, arith, length-append}
use lib.Seq.{sets}
use Rattle.signs.specs.Signs.{Mark}
use Rattle.grammar.specs.Reading.{Ahead, Built, Grown, Machine, bind_built, negated_unit}
use Rattle.kat.specs.Terms.{Term, act, chain, choice, is_test, size, skip, star, stop, test}
use Rattle.kat.specs.Terms as term
use Rattle.grammar.specs.declared.fault.RuleFault.{RuleFault}
use Rattle.rules.specs.Builders.{Shape, shape_of, shown_built, shown_grown}
use Rattle.rules.specs.Nodes.{flat, root_at}
use Rattle.rules.specs.Readers.{with_node}
use Rattle.rules.specs.declared.node.Node.{Node}
use Rattle.rules.specs.declared.node.Node.TheVariants.{Not}
use Rattle.grammar.proofs.Results.{err_not_ok, ok_same}

-- every term has a node
pub size_pos : (e : Term) → 0 < size e
size_pos (test t) = omega arith
size_pos (act a p) = omega arith
size_pos skip = omega arith
size_pos stop = omega arith
size_pos (term.not e) = omega arith
size_pos (choice e f) = omega arith
size_pos (chain e f) = omega arith
size_pos (star e) = omega arith

-- a term has as many nodes as it has signs
pub length_flat : (base : ℕ) (e : Term) → length (flat base e) ≡ size e
length_flat base (test t) = refl
length_flat base (act a p) = refl
length_flat base skip = refl
length_flat base stop = refl
length_flat base (term.not e) = simp length-append (omega (arith, length_flat base e))
length_flat base (choice e f) = simp length-append (omega (arith, length_flat base e, length_flat (base + size e) f))
length_flat base (chain e f) = simp length-append (omega (arith, length_flat base e, length_flat (base + size e) f))
length_flat base (star e) = simp length-append (omega (arith, length_flat base e))

-- nodes are written one behind the other
pub sets_append : {X : Type 0} (l : List X) (i : ℕ) (xs ys : List X) → sets l i (xs ++ ys) ≡ sets (sets l i xs) (i + length xs) ys
sets_append l i [] ys = rw add-zero refl
sets_append l i (x ∷ xs) ys = rw add-suc (sets_append (set l i x) (suc i) xs ys ∙ ap (λ k. sets (sets (set l i x) (suc i) xs) k ys) (omega arith))

pub sets_more : (nodes : List Node) (used : ℕ) (e : Term) (node : Node) → set (sets nodes used (flat used e)) (used + size e) node ≡ sets nodes used (flat used e ++ (node ∷ []))
sets_more nodes used e node =
    ap (λ k. set (sets nodes used (flat used e)) (used + k) node) (sym (length_flat used e)) ∙ sym (sets_append nodes used (flat used e) (node ∷ []))

-- what was shown came from a reading that was granted
pub got_built : (used : ℕ) (nodes : List Node) (d : Result Built RuleFault) (s : Shape) → Ok s ≡ shown_built used nodes d → (b : Built) × (d ≡ Ok b) × (s ≡ shape_of used nodes b.term None b.ahead b.machine)
got_built used nodes (Ok b) s e = (b, refl, ok_same e)
got_built used nodes (Err fault) s e = absurd (err_not_ok (sym e))

pub got_grown : (used : ℕ) (nodes : List Node) (d : Result Grown RuleFault) (s : Shape) → Ok s ≡ shown_grown used nodes d → (g : Grown) × (d ≡ Ok g) × (s ≡ shape_of used nodes g.term g.next g.ahead g.machine)
got_grown used nodes (Ok g) s e = (g, refl, ok_same e)
got_grown used nodes (Err fault) s e = absurd (err_not_ok (sym e))

-- or from one that was refused
pub lost_built : (used : ℕ) (nodes : List Node) (d : Result Built RuleFault) (fault : RuleFault) → Err fault ≡ shown_built used nodes d → d ≡ Err fault
lost_built used nodes (Ok b) fault e = absurd (err_not_ok e)
lost_built used nodes (Err x) fault e = cc

pub lost_grown : (used : ℕ) (nodes : List Node) (d : Result Grown RuleFault) (fault : RuleFault) → Err fault ≡ shown_grown used nodes d → d ≡ Err fault
lost_grown used nodes (Ok g) fault e = absurd (err_not_ok e)
lost_grown used nodes (Err x) fault e = cc

-- a part with one node more, which names it
abbrev pub wrapped : (ℕ → Node) → Bool → Shape → Shape
wrapped make is_test s = record { root = s.then.used; test = is_test; next = s.next; then = with_node (make s.root) s.then }

pub wrapped_is : (used : ℕ) (nodes : List Node) (e f : Term) (make : ℕ → Node) (next : Option Mark) (ahead : Ahead) (machine : Machine)
    → flat used f ≡ flat used e ++ (make (root_at used e) ∷ []) → size f ≡ size e + 1
    → wrapped make (is_test f) (shape_of used nodes e next ahead machine) ≡ shape_of used nodes f next ahead machine
wrapped_is used nodes e f make next ahead machine laid sized =
    let root : used + size e ≡ root_at used f = omega (arith, sized) in
    let more : used + size e + 1 ≡ used + size f = omega (arith, sized) in
    let written = sets_more nodes used e (make (root_at used e)) ∙ ap (sets nodes used) (sym laid) in
    cc

-- the negation of a test
pub negated : (used : ℕ) (nodes : List Node) (place : ℕ) (d : Result Built RuleFault) (s : Shape) → s.test ≡ true → Ok s ≡ shown_built used nodes d
    → Ok (wrapped Not true s) ≡ shown_built used nodes (bind_built d (negated_unit place))
negated used nodes place d s t e = go (got_built used nodes d s e)
  where
    at : (b : Built) → is_test b.term ≡ true → Ok (wrapped Not true (shape_of used nodes b.term None b.ahead b.machine)) ≡ shown_built used nodes (negated_unit place b)
    at b h =
        let is = wrapped_is used nodes b.term (term.not b.term) Not None b.ahead b.machine refl refl in
        rw h (ap Ok (ap (λ t. wrapped Not t (shape_of used nodes b.term None b.ahead b.machine)) (sym h) ∙ is))

    go : (b : Built) × (d ≡ Ok b) × (s ≡ shape_of used nodes b.term None b.ahead b.machine) → Ok (wrapped Not true s) ≡ shown_built used nodes (bind_built d (negated_unit place))
    go (b, is, same) = rw (is, same) (at b (sym (ap (λ s. s.test) same) ∙ t))
