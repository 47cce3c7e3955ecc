-- What a reader holds and gives, seen by values.
use Rattle.std.specs.Prelude.{◌≡◌, ℕ, ◌+◌, ◌≤◌, cond, ◌&&◌, List, length, Some, None, Ok, Err, Option, Result, slice_set}
use Rattle.signs.specs.Reader.{mark_of}
use Rattle.signs.specs.Signs.{Mark, named, skipping, stopping, opening, closing, negating, repeating, following, choosing}
use Rattle.signs.specs.declared.sign.Sign.{Sign}
use Rattle.sheet.specs.Held.{names_of}
use Rattle.sheet.specs.Naming.{found_by}
use Rattle.sheet.specs.Spelling.{name_from}
use Rattle.sheet.specs.declared.named.Named.{Named}
use Rattle.sheet.specs.declared.names.Names.{Names}
use Rattle.grammar.specs.Reading.{Ahead, signs_left}
use Rattle.grammar.specs.Reading as reading
use Rattle.grammar.specs.declared.fault.RuleFault.{RuleFault}
use Rattle.rules.specs.Aheads.{ahead_of}
use Rattle.rules.specs.Machines.{machine_of}
use Rattle.rules.specs.declared.node.Node.{Node}
use Rattle.rules.specs.declared.reader.Judged.{Judged}
use Rattle.rules.specs.declared.reader.Reader.{Reader}

abbrev pub means_of : Names → List ℕ → Option Named
means_of names bytes = found_by (names_of names) (name_from bytes)

-- What a sign names, if it is a name.
abbrev pub named_by : (List ℕ → Option Named) → Mark → Option Named
named_by means (named name place) = means name
named_by means (skipping place) = None
named_by means (stopping place) = None
named_by means (opening place) = None
named_by means (closing place) = None
named_by means (negating place) = None
named_by means (repeating place) = None
named_by means (following place) = None
named_by means (choosing place) = None

-- A sign of the code, or none, by its bytes and its place.
abbrev pub maybe_mark : Option Sign → Option Mark
maybe_mark None = None
maybe_mark (Some sign) = Some (mark_of sign)

-- The same of a sign that was judged.
abbrev pub judged_mark : Option Judged → Option Mark
judged_mark None = None
judged_mark (Some judged) = Some (mark_of judged.sign)

-- What lies ahead of a reader.
abbrev pub ahead_by : Reader → Ahead
ahead_by reader = ahead_of reader.end reader.signs

-- Where a reader stands: what lies ahead, its state, and the nodes so far.
pub record Standing : Type 0 where
  pub ahead : Ahead
  pub machine : reading.Machine
  pub used : ℕ
  pub nodes : List Node

abbrev pub standing : Reader → Standing
standing reader = record { ahead = ahead_by reader; machine = machine_of reader.machine; used = reader.machine.nodes; nodes = reader.nodes.now }

-- The same with one more node, which is only counted where there is no room for it.
abbrev pub with_node : Node → Standing → Standing
with_node node s = record { ahead = s.ahead; machine = s.machine; used = s.used + 1; nodes = slice_set s.nodes s.used node }

-- One for a sign, none at the end.
abbrev pub sign_in : Option Mark → ℕ
sign_in None = 0
sign_in (Some m) = 1

-- One for a sign that is no bracket.
abbrev pub count_in : Option Mark → ℕ
count_in None = 0
count_in (Some m) = cond (reading.is_bracket m) 0 1

-- One for a sign that opens a level.
abbrev pub level_in : Option Mark → ℕ
level_in None = 0
level_in (Some m) = cond (reading.opens m) 1 0

-- One for `(`.
abbrev pub bracket_in : Option Mark → ℕ
bracket_in None = 0
bracket_in (Some m) = cond (reading.opens m && reading.is_bracket m) 1 0

-- One for `)`.
abbrev pub close_in : Option Mark → ℕ
close_in None = 0
close_in (Some m) = cond (reading.opens m) 0 (cond (reading.is_bracket m) 1 0)

-- How a sign moves a reader on.
pub record Moved (levels : ℕ) (next : Option Mark) (a b : Standing) : Type 0 where
  pub left : signs_left b.ahead + sign_in next ≤ signs_left a.ahead
  pub signs : b.machine.signs ≡ a.machine.signs + count_in next
  pub brackets : b.machine.brackets + close_in next ≤ a.machine.brackets + bracket_in next
  pub level : level_in next ≤ levels

-- What no call changes: the nodes that were lent, what names name, and the room.
pub record Stays (a b : Reader) : Type 0 where
  pub lent : b.nodes.ghost_name ≡ a.nodes.ghost_name
  pub names : a.names.now ≡ b.names.now
  pub room : length a.nodes.now ≡ length b.nodes.now

-- What a pull gave, with what lies ahead of the reader then and its state.
abbrev pub pulled_of : Result (Option Judged) RuleFault → Reader → Result reading.Pulled RuleFault
pulled_of (Ok pulled) reader = Ok (record { mark = judged_mark pulled; ahead = ahead_by reader; machine = machine_of reader.machine })
pulled_of (Err fault) reader = Err fault

-- What the sign names comes with it.
abbrev pub LooksUp : (List ℕ → Option Named) → Result (Option Judged) RuleFault → Type 0
LooksUp means (Ok None) = Unit {0}
LooksUp means (Ok (Some judged)) = judged.named ≡ named_by means (mark_of judged.sign)
LooksUp means (Err fault) = Unit {0}

-- A pull takes the sign from what lies ahead, counts it unless it is a bracket, opens and closes brackets, and opens
-- a level only where one is left.
abbrev pub Moves : ℕ → Result (Option Judged) RuleFault → Reader → Reader → Type 0
Moves levels (Ok pulled) a b = Moved levels (judged_mark pulled) (standing a) (standing b)
Moves levels (Err fault) a b = Unit {0}
