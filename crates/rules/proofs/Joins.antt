-- Two parts joined by `;` or `|`, on values alone.
use Rattle.std.proofs.Common.{◌≡◌, ℕ, ◌+◌, Bool, true, false, ◌&&◌, List, [], ◌∷◌, ◌++◌, set, Ok, Err, Option, Result, sym, refl, ap, ◌∙◌, ap₂, arith}
use lib.Seq.{sets}
use Rattle.signs.specs.Signs.{Mark}
use Rattle.grammar.specs.Reading.{Ahead, Grown, Machine, bind_grown, or_more}
use Rattle.kat.specs.Terms.{Term, chain, choice, is_test, size}
use Rattle.grammar.specs.declared.fault.RuleFault.{RuleFault}
use Rattle.rules.specs.Builders.{Shape, joined_shape, shape_of, shown_grown}
use Rattle.rules.specs.Nodes.{flat, root_at}
use Rattle.rules.specs.declared.node.Node.{Node}
use Rattle.rules.specs.declared.node.Node.TheVariants.{Chain, Choice}
use Rattle.rules.proofs.Shapes.{got_grown, length_flat, lost_grown, sets_append, size_pos}

-- a first part that is refused
pub first_err : {X : Type 0} (used : ℕ) (nodes : List Node) (d : Result Grown RuleFault) (k : Grown → Result X RuleFault) (fault : RuleFault) → Err fault ≡ shown_grown used nodes d → bind_grown d k ≡ Err fault
first_err used nodes d k fault e = rw (lost_grown used nodes d fault e)

-- how a node joins two parts
pub record Joins (join : Term → Term → Term) (make : ℕ → ℕ → Node) : Type 0 where
  pub laid : (used : ℕ) (e f : Term) → flat used (join e f) ≡ flat used e ++ (flat (used + size e) f ++ (make (root_at used e) (root_at (used + size e) f) ∷ []))
  pub sized : (e f : Term) → size (join e f) ≡ size e + size f + 1
  pub tested : (e f : Term) → is_test (join e f) ≡ (is_test e && is_test f)

module _ (joins : Option Mark → Bool) (join : Term → Term → Term) (make : ℕ → ℕ → Node) (law : Joins join make) (more : Ahead → Machine → Result Grown RuleFault) (used : ℕ) (nodes : List Node) (d : Result Grown RuleFault) (s : Shape) (first : Ok s ≡ shown_grown used nodes d) where
  pub alone : joins s.next ≡ false → Ok s ≡ shown_grown used nodes (bind_grown d (or_more joins join more))
  alone h = go (got_grown used nodes d s first)
    where
      go : (g : Grown) × (d ≡ Ok g) × (s ≡ shape_of used nodes g.term g.next g.ahead g.machine) → Ok s ≡ shown_grown used nodes (bind_grown d (or_more joins join more))
      go (g, is, same) =
          let no : joins g.next ≡ false = sym (ap (λ s. joins s.next) same) ∙ h in
          rw (is, no) (ap Ok same)

  -- behind a joining sign the rest is read from where the first part ended
  rest : joins s.next ≡ true → (g : Grown) × (s ≡ shape_of used nodes g.term g.next g.ahead g.machine)
      × (bind_grown d (or_more joins join more) ≡ bind_grown (more s.then.ahead s.then.machine) (λ h. Ok (record { term = join g.term h.term; next = h.next; ahead = h.ahead; machine = h.machine })))
  rest h = go (got_grown used nodes d s first)
    where
      go : (g : Grown) × (d ≡ Ok g) × (s ≡ shape_of used nodes g.term g.next g.ahead g.machine) → (g : Grown) × (s ≡ shape_of used nodes g.term g.next g.ahead g.machine)
          × (bind_grown d (or_more joins join more) ≡ bind_grown (more s.then.ahead s.then.machine) (λ h. Ok (record { term = join g.term h.term; next = h.next; ahead = h.ahead; machine = h.machine })))
      go (g, is, same) =
          let yes : joins g.next ≡ true = sym (ap (λ s. joins s.next) same) ∙ h in
          (g, same, rw (is, yes, same))

  pub second_err : (fault : RuleFault) → joins s.next ≡ true → Err fault ≡ shown_grown s.then.used s.then.nodes (more s.then.ahead s.then.machine) → Err fault ≡ shown_grown used nodes (bind_grown d (or_more joins join more))
  second_err fault h e = let r = rest h in ap (shown_grown used nodes) (sym (r.2 ∙ first_err _ _ _ _ fault e))

  pub both : (t : Shape) → joins s.next ≡ true → Ok t ≡ shown_grown s.then.used s.then.nodes (more s.then.ahead s.then.machine)
      → Ok (joined_shape (make s.root t.root) s t) ≡ shown_grown used nodes (bind_grown d (or_more joins join more))
  both t h e = go (rest h) (got_grown _ _ _ t e)
    where
      laid_out : (a b : Term) (next : Option Mark) (ahead : Ahead) (machine : Machine) (other : Option Mark) (before : Ahead) (m : Machine)
          → joined_shape (make (root_at used a) (root_at (used + size a) b)) (shape_of used nodes a other before m) (shape_of (used + size a) (sets nodes used (flat used a)) b next ahead machine) ≡ shape_of used nodes (join a b) next ahead machine
      laid_out a b next ahead machine other before m =
          let node = make (root_at used a) (root_at (used + size a) b) in
          let pos = size_pos b in
          let root : used + size a + size b ≡ root_at used (join a b) = omega (arith, law.sized a b) in
          let wide : used + size a + size b + 1 ≡ used + size (join a b) = omega (arith, law.sized a b) in
          let tests = law.tested a b in
          let one = sets_append (sets nodes used (flat used a)) (used + size a) (flat (used + size a) b) (node ∷ []) in
          let two = sets_append nodes used (flat used a) (flat (used + size a) b ++ (node ∷ [])) in
          let written : set (sets (sets nodes used (flat used a)) (used + size a) (flat (used + size a) b)) (used + size a + size b) node ≡ sets nodes used (flat used (join a b)) =
          ap (λ k. set (sets (sets nodes used (flat used a)) (used + size a) (flat (used + size a) b)) (used + size a + k) node) (sym (length_flat (used + size a) b))
          ∙ sym one
          ∙ ap (λ k. sets (sets nodes used (flat used a)) (used + k) (flat (used + size a) b ++ (node ∷ []))) (sym (length_flat used a))
          ∙ sym two
          ∙ ap (sets nodes used) (sym (law.laid used a b))
          in
          cc

      go : (g : Grown) × (s ≡ shape_of used nodes g.term g.next g.ahead g.machine)
          × (bind_grown d (or_more joins join more) ≡ bind_grown (more s.then.ahead s.then.machine) (λ h. Ok (record { term = join g.term h.term; next = h.next; ahead = h.ahead; machine = h.machine })))
          → (k : Grown) × (more s.then.ahead s.then.machine ≡ Ok k) × (t ≡ shape_of s.then.used s.then.nodes k.term k.next k.ahead k.machine)
          → Ok (joined_shape (make s.root t.root) s t) ≡ shown_grown used nodes (bind_grown d (or_more joins join more))
      go (g, same, whole) (k, is, then) =
          let first : Grown → Shape = λ g. shape_of used nodes g.term g.next g.ahead g.machine in
          let second : t ≡ shape_of (used + size g.term) (sets nodes used (flat used g.term)) k.term k.next k.ahead k.machine = then ∙ ap (λ s. shape_of s.then.used s.then.nodes k.term k.next k.ahead k.machine) same in
          ap₂ (λ s t. Ok (joined_shape (make s.root t.root) s t)) same second
          ∙ ap Ok (laid_out g.term k.term k.next k.ahead k.machine g.next g.ahead g.machine)
          ∙ ap (shown_grown used nodes) (sym (whole ∙ ap (λ r. bind_grown r (λ h. Ok (record { term = join g.term h.term; next = h.next; ahead = h.ahead; machine = h.machine }))) is))

pub chain_joins : Joins chain Chain
chain_joins = record { laid = λ used e f. refl; sized = λ e f. refl; tested = λ e f. refl }

pub choice_joins : Joins choice Choice
choice_joins = record { laid = λ used e f. refl; sized = λ e f. refl; tested = λ e f. refl }
