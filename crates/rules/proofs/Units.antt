-- Units by the sign that they begin with, on values alone.
use Rattle.std.proofs.Common.{◌≡◌, ℕ, suc, ◌+◌, ◌-◌, ◌*◌, ◌≤◌, true, false, List, [], ◌∷◌, None, Ok, Err, Option, Result, sym, ap, ◌∙◌, arith}
use lib.Seq.{sets}
use Rattle.signs.specs.Signs.{Mark}
use Rattle.sheet.specs.declared.names.Names.{Names}
use Rattle.grammar.specs.Reading.{Built, Grown, bind_built, bind_grown, bind_pulled, choice_from, closed_unit, is_closing, pull, signs_left, unit_at, unit_from}
use Rattle.kat.specs.Terms.{Term, is_test, size}
use Rattle.grammar.specs.declared.fault.RuleFault.{RuleFault}
use Rattle.grammar.specs.declared.fault.RuleFault.TheVariants.{Unfit}
use Rattle.rules.specs.Builders.{Shape, UnitRead, built_of, leaf_shape, shape_of, shown_built, shown_grown}
use Rattle.rules.specs.Machines.{machine_of}
use Rattle.rules.specs.Nodes.{flat}
use Rattle.rules.specs.Readers.{Standing, ahead_by, means_of}
use Rattle.rules.specs.declared.node.Node.{Node}
use Rattle.rules.specs.declared.part.Built as code
use Rattle.rules.specs.declared.reader.Reader.{Reader}
use Rattle.rules.proofs.Fuel.{unit_by}
use Rattle.rules.proofs.Shapes.{got_grown, lost_built}

-- the pull of a sign changes no node and no name
pub moved_grown : (r : Result Shape RuleFault) (F : Names → Result Grown RuleFault) (u v : ℕ) (n m : List Node) (x y : Names) → r ≡ shown_grown v m (F y) → v ≡ u → m ≡ n → x ≡ y → r ≡ shown_grown u n (F x)
moved_grown r F u v n m x y e p q s = rw (← p, ← q, s) e

pub moved_built : (r : Result Shape RuleFault) (F : Names → Result Built RuleFault) (u v : ℕ) (n m : List Node) (x y : Names) → r ≡ shown_built v m (F y) → v ≡ u → m ≡ n → x ≡ y → r ≡ shown_built u n (F x)
moved_built r F u v n m x y e p q s = rw (← p, ← q, s) e

-- a unit whose first sign was pulled is what its sign makes of what lies behind it; the pull puts down no node
module _ (levels : ℕ) (a mid b : Reader) (read mark : Option Mark) (r : Result code.Built RuleFault) (names : a.names.now ≡ mid.names.now) (used : mid.machine.nodes ≡ a.machine.nodes) (nodes : mid.nodes.now ≡ a.nodes.now)
    (pulled : Ok (record { mark = read; ahead = ahead_by mid; machine = machine_of mid.machine }) ≡ pull (means_of a.names.now) levels (ahead_by a) (machine_of a.machine)) (is : read ≡ mark) where
  abbrev behind : ℕ → Names → Result Built RuleFault
  behind fuel names = unit_at (means_of names) (unit_from fuel (means_of names) (levels - 1)) (choice_from fuel (means_of names) (levels - 1)) mark (ahead_by mid) (machine_of mid.machine)

  pub unit_begun : ((f : ℕ) → signs_left (ahead_by a) * 4 ≤ f → built_of r b ≡ shown_built mid.machine.nodes mid.nodes.now (behind f mid.names.now)) → UnitRead levels r a b
  unit_begun h = unit_by levels a b r (λ f le.
      let begun : unit_from (suc f) (means_of a.names.now) levels (ahead_by a) (machine_of a.machine) ≡ behind f a.names.now =
      ap (λ r. bind_pulled r (λ p. unit_at (means_of a.names.now) (unit_from f (means_of a.names.now) (levels - 1)) (choice_from f (means_of a.names.now) (levels - 1)) p.mark p.ahead p.machine)) (sym pulled)
      ∙ ap (λ mark. unit_at (means_of a.names.now) (unit_from f (means_of a.names.now) (levels - 1)) (choice_from f (means_of a.names.now) (levels - 1)) mark (ahead_by mid) (machine_of mid.machine)) is
      in
      moved_built _ (behind f) _ _ _ _ _ _ (h f le) used nodes names ∙ sym (ap (shown_built a.machine.nodes a.nodes.now) begun))

-- a unit whose first sign is refused
pub unit_err : (levels : ℕ) (a b : Reader) (r : Result code.Built RuleFault) (fault : RuleFault) → built_of r b ≡ Err fault → Err fault ≡ pull (means_of a.names.now) levels (ahead_by a) (machine_of a.machine) → UnitRead levels r a b
unit_err levels a b r fault e pulled = unit_by levels a b r (λ f le.
    e ∙ ap (λ r. shown_built a.machine.nodes a.nodes.now (bind_pulled r (λ p. unit_at (means_of a.names.now) (unit_from f (means_of a.names.now) (levels - 1)) (choice_from f (means_of a.names.now) (levels - 1)) p.mark p.ahead p.machine))) pulled)

-- a unit that is refused, with what would have been made of it
pub built_err : {X : Type 0} (used : ℕ) (nodes : List Node) (d : Result Built RuleFault) (k : Built → Result X RuleFault) (fault : RuleFault) → Err fault ≡ shown_built used nodes d → bind_built d k ≡ Err fault
built_err used nodes d k fault e = rw (lost_built used nodes d fault e)

-- a word
pub word_shown : (s : Standing) (node : Node) (e : Term) → flat s.used e ≡ node ∷ [] → size e ≡ 1 → is_test e ≡ true → leaf_shape node true s ≡ shape_of s.used s.nodes e None s.ahead s.machine
word_shown s node e laid sized tests =
    let root : s.used ≡ s.used + size e - 1 = omega (arith, sized) in
    let more : s.used + 1 ≡ s.used + size e = omega (arith, sized) in
    let written = ap (sets s.nodes s.used) (sym laid) in
    cc

-- the choice in brackets
module _ (used : ℕ) (nodes : List Node) (place : ℕ) (d : Result Grown RuleFault) (s : Shape) (whole : Ok s ≡ shown_grown used nodes d) where
  pub closed : is_closing s.next ≡ true → Ok (record { root = s.root; test = s.test; next = None; then = s.then }) ≡ shown_built used nodes (bind_grown d (closed_unit place))
  closed h = go (got_grown used nodes d s whole)
    where
      go : (g : Grown) × (d ≡ Ok g) × (s ≡ shape_of used nodes g.term g.next g.ahead g.machine) → Ok (record { root = s.root; test = s.test; next = None; then = s.then }) ≡ shown_built used nodes (bind_grown d (closed_unit place))
      go (g, is, same) =
          let yes : is_closing g.next ≡ true = sym (ap (λ s. is_closing s.next) same) ∙ h in
          rw (is, yes) (ap (λ s. Ok (record { root = s.root; test = s.test; next = None; then = s.then })) same)

  pub not_closed : is_closing s.next ≡ false → Err (Unfit place) ≡ shown_built used nodes (bind_grown d (closed_unit place))
  not_closed h = go (got_grown used nodes d s whole)
    where
      go : (g : Grown) × (d ≡ Ok g) × (s ≡ shape_of used nodes g.term g.next g.ahead g.machine) → Err (Unfit place) ≡ shown_built used nodes (bind_grown d (closed_unit place))
      go (g, is, same) =
          let other : is_closing g.next ≡ false = sym (ap (λ s. is_closing s.next) same) ∙ h in
          rw (is, other)
