-- What a book holds: the sheet's meaning and names, and the filed flows in the order of filing.
use Rattle.std.specs.Prelude.{ℕ, zero, suc, ◌+◌, Bool, false, cond, ◌||◌, List, [], ◌∷◌, length, Some, None, Option, ◌==◌}
use Rattle.std.specs.Str.{bytes_eq}
use Rattle.charts.specs.Charts.{chart_meaning}
use Rattle.charts.specs.declared.line.Line.{Line}
use Rattle.kat.specs.Terms.{Term, size}
use Rattle.places.specs.Meaning.{places_on}
use Rattle.runs.specs.Flows.{FlowMeaning}
use Rattle.sheet.specs.Laid.{LaidOut}

-- What a filed flow was made of: the term of a rule, or the states and lines of a chart.
pub data Shape : Type 0 where
  of_rule : Term → Shape
  of_chart : ℕ → List Line → Shape

-- The flow that it makes, over what is laid out on a sheet.
abbrev pub flow_of : LaidOut → Shape → FlowMeaning
flow_of laid (of_rule e) = places_on laid e
flow_of laid (of_chart states lines) = chart_meaning laid.meaning.situations (length laid.names.actions) states lines

-- A filed flow: its name, what it was made of, and the mark of its group. Flows are in one group where their marks are equal.
pub record Filed : Type 0 where
  pub name : List ℕ
  pub shape : Shape
  pub mark : ℕ

pub record Ledger : Type 0 where
  pub sheet : LaidOut
  pub filed : List Filed

-- A book as it is opened holds no flows.
abbrev pub opened : LaidOut → Ledger
opened laid = record { sheet = laid; filed = [] }

-- How many nodes, and how many lines, a flow takes, and all filed ones together.
abbrev pub nodes_of : Shape → ℕ
nodes_of (of_rule e) = size e
nodes_of (of_chart states lines) = 0

abbrev pub lines_of : Shape → ℕ
lines_of (of_rule e) = 0
lines_of (of_chart states lines) = length lines

abbrev pub nodes_used : List Filed → ℕ
nodes_used [] = 0
nodes_used (f ∷ filed) = nodes_of f.shape + nodes_used filed

abbrev pub lines_used : List Filed → ℕ
lines_used [] = 0
lines_used (f ∷ filed) = lines_of f.shape + lines_used filed

-- The flow filed under a name.
abbrev pub named : List Filed → List ℕ → Option Filed
named [] name = None
named (f ∷ filed) name = cond (bytes_eq f.name name) (Some f) (named filed name)

-- The place, from 0, of the first flow with a mark; their number where none has it.
abbrev pub first_marked : List Filed → ℕ → ℕ
first_marked [] mark = 0
first_marked (f ∷ filed) mark = cond (f.mark == mark) 0 (suc (first_marked filed mark))

-- The number of a flow's group: the position, from 1, of the first flow in the group as the flows now stand. It is worked out, and not remembered.
abbrev pub group_number : List Filed → Filed → ℕ
group_number filed f = suc (first_marked filed f.mark)

-- Some flow has the mark.
abbrev pub has_mark : List Filed → ℕ → Bool
has_mark [] mark = false
has_mark (f ∷ filed) mark = f.mark == mark || has_mark filed mark

-- The lowest mark, from one on, that no flow has; as many tries as there are flows are enough.
abbrev pub free_from : List Filed → ℕ → ℕ → ℕ
free_from filed zero mark = mark
free_from filed (suc tries) mark = cond (has_mark filed mark) (free_from filed tries (suc mark)) mark

abbrev pub free_mark : List Filed → ℕ
free_mark filed = free_from filed (length filed) 0

-- The flows without the one under a name.
abbrev pub without : List Filed → List ℕ → List Filed
without [] name = []
without (f ∷ filed) name = cond (bytes_eq f.name name) filed (f ∷ without filed name)
