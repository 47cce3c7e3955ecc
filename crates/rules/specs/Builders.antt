-- What the builders give, seen by values, against the grammar's reading.
use Rattle.std.specs.Prelude.{◌≡◌, ℕ, ◌+◌, ◌*◌, ◌<◌, ◌≤◌, Bool, ◌&&◌, List, None, Ok, Err, Option, Result}
use Rattle.std.proofs.lemmas.List.Edits.{sets}
use Rattle.signs.specs.Signs.{Mark}
use Rattle.sheet.specs.declared.named.Named.{Named}
use Rattle.grammar.specs.Reading.{Ahead, Machine, bind_built, chain_from, choice_from, named_unit, negated_unit, signs_left, stars_from, step_from, unit_from}
use Rattle.grammar.specs.Reading as reading
use Rattle.kat.specs.Terms.{Term, is_test, size}
use Rattle.grammar.specs.declared.fault.RuleFault.{RuleFault}
use Rattle.rules.specs.Machines.{machine_of}
use Rattle.rules.specs.Nodes.{flat, root_at}
use Rattle.rules.specs.Readers.{Standing, ahead_by, bracket_in, close_in, count_in, maybe_mark, means_of, standing, with_node}
use Rattle.rules.specs.declared.node.Node.{Node}
use Rattle.rules.specs.declared.part.Built.{Built}
use Rattle.rules.specs.declared.part.Grown.{Grown}
use Rattle.rules.specs.declared.reader.Reader.{Reader}

-- A part as it was built: the place of its root, whether it is a test, the sign behind it, and where the reader stands.
pub record Shape : Type 0 where
  pub root : ℕ
  pub test : Bool
  pub next : Option Mark
  pub then : Standing

-- What the code gave, seen so.
abbrev pub part_at : Built → Reader → Shape
part_at unit reader = record { root = unit.root; test = unit.is_test; next = None; then = standing reader }

abbrev pub built_of : Result Built RuleFault → Reader → Result Shape RuleFault
built_of (Ok unit) reader = Ok (part_at unit reader)
built_of (Err fault) reader = Err fault

abbrev pub shape_at : Grown → Reader → Shape
shape_at grown reader = record { root = grown.part.root; test = grown.part.is_test; next = maybe_mark grown.next; then = standing reader }

abbrev pub grown_of : Result Grown RuleFault → Reader → Result Shape RuleFault
grown_of (Ok part) reader = Ok (shape_at part reader)
grown_of (Err fault) reader = Err fault

-- A part by its root, where the reader stood at `s`.
abbrev pub leaf_shape : Node → Bool → Standing → Shape
leaf_shape node test s = record { root = s.used; test = test; next = None; then = with_node node s }

-- Two parts joined by a node behind the second.
abbrev pub joined_shape : Node → Shape → Shape → Shape
joined_shape node left right = record { root = right.then.used; test = left.test && right.test; next = right.next; then = with_node node right.then }

-- A term that was built where `used` nodes were there already: its nodes are written behind them, as far as there is room.
abbrev pub shape_of : ℕ → List Node → Term → Option Mark → Ahead → Machine → Shape
shape_of used nodes e next ahead machine =
    record {
      root = root_at used e;
      test = is_test e;
      next = next;
      then = record { ahead = ahead; machine = machine; used = used + size e; nodes = sets nodes used (flat used e) };
    }

-- What the grammar says of a reading, seen so.
abbrev pub shown_built : ℕ → List Node → Result reading.Built RuleFault → Result Shape RuleFault
shown_built used nodes (Ok b) = Ok (shape_of used nodes b.term None b.ahead b.machine)
shown_built used nodes (Err fault) = Err fault

abbrev pub shown_grown : ℕ → List Node → Result reading.Grown RuleFault → Result Shape RuleFault
shown_grown used nodes (Ok g) = Ok (shape_of used nodes g.term g.next g.ahead g.machine)
shown_grown used nodes (Err fault) = Err fault

-- How a part moves the reader on: it takes so many signs at least from what lies ahead, has a node for each sign that it
-- counts but for the next one behind it, and leaves as many brackets open but for that.
pub record Further (signs : ℕ) (next : Option Mark) (a b : Reader) : Type 0 where
  pub left : signs_left (ahead_by b) + signs ≤ signs_left (ahead_by a)
  pub counted : a.machine.signs + b.machine.nodes + count_in next ≤ a.machine.nodes + b.machine.signs
  pub brackets : b.machine.brackets + close_in next ≤ a.machine.brackets + bracket_in next

abbrev pub OnwardUnit : Result Built RuleFault → Reader → Reader → Type 0
OnwardUnit (Ok unit) a b = Further 1 None a b
OnwardUnit (Err fault) a b = Unit {0}

abbrev pub Onward : Result Grown RuleFault → Reader → Reader → Type 0
Onward (Ok part) a b = Further 1 (maybe_mark part.next) a b
Onward (Err fault) a b = Unit {0}

abbrev pub NotBack : Result Grown RuleFault → Reader → Reader → Type 0
NotBack (Ok part) a b = Further 0 (maybe_mark part.next) a b
NotBack (Err fault) a b = Unit {0}

-- One node more, and nothing else.
pub record OneMore (a b : Reader) : Type 0 where
  pub ahead : ahead_by b ≡ ahead_by a
  pub machine : machine_of b.machine ≡ machine_of a.machine
  pub used : b.machine.nodes ≡ a.machine.nodes + 1

abbrev pub Adds : Result Built RuleFault → Reader → Reader → Type 0
Adds (Ok unit) a b = OneMore a b
Adds (Err fault) a b = Unit {0}

-- The unit that a name is.
abbrev pub NamedRead : Option Named → ℕ → Result Built RuleFault → Reader → Reader → Type 0
NamedRead named place r a b = built_of r b ≡ shown_built a.machine.nodes a.nodes.now (named_unit named place (ahead_by a) (machine_of a.machine))

-- The negation of a unit: whatever reading the unit came from, its negation comes from that.
abbrev pub NegatedRead : Built → ℕ → Result Built RuleFault → Reader → Reader → Type 0
NegatedRead unit place r a b =
    (used : ℕ) (nodes : List Node) (d : Result reading.Built RuleFault) → built_of (Ok unit) a ≡ shown_built used nodes d → built_of r b ≡ shown_built used nodes (bind_built d (negated_unit place))

-- A unit with the `*` behind it: whatever reading the unit came from, the step comes from that.
abbrev pub StarsRead : Built → ℕ → Result Grown RuleFault → Reader → Reader → Type 0
StarsRead unit levels r a b =
    (used : ℕ) (nodes : List Node) (d : Result reading.Built RuleFault)
    → built_of (Ok unit) a ≡ shown_built used nodes d
    → grown_of r b ≡ shown_grown used nodes (bind_built d (λ u. stars_from (means_of a.names.now) levels u.ahead u.term u.machine))

-- The four builders, with fuel enough for the signs ahead.
abbrev pub UnitRead : ℕ → Result Built RuleFault → Reader → Reader → Type 0
UnitRead levels r a b =
    (fuel : ℕ) → signs_left (ahead_by a) * 4 < fuel → built_of r b ≡ shown_built a.machine.nodes a.nodes.now (unit_from fuel (means_of a.names.now) levels (ahead_by a) (machine_of a.machine))

abbrev pub StepRead : ℕ → Result Grown RuleFault → Reader → Reader → Type 0
StepRead levels r a b =
    (fuel : ℕ) → signs_left (ahead_by a) * 4 + 1 < fuel → grown_of r b ≡ shown_grown a.machine.nodes a.nodes.now (step_from fuel (means_of a.names.now) levels (ahead_by a) (machine_of a.machine))

abbrev pub ChainRead : ℕ → Result Grown RuleFault → Reader → Reader → Type 0
ChainRead levels r a b =
    (fuel : ℕ) → signs_left (ahead_by a) * 4 + 2 < fuel → grown_of r b ≡ shown_grown a.machine.nodes a.nodes.now (chain_from fuel (means_of a.names.now) levels (ahead_by a) (machine_of a.machine))

abbrev pub ChoiceRead : ℕ → Result Grown RuleFault → Reader → Reader → Type 0
ChoiceRead levels r a b =
    (fuel : ℕ) → signs_left (ahead_by a) * 4 + 3 < fuel → grown_of r b ≡ shown_grown a.machine.nodes a.nodes.now (choice_from fuel (means_of a.names.now) levels (ahead_by a) (machine_of a.machine))
