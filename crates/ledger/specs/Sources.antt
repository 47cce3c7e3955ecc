-- What a flow is filed from, and the runs that this allows, over what is laid out on a sheet.
use Rattle.std.specs.Prelude.{◌≡◌, ℕ, ◌≤◌, List, length, Ok}
use Rattle.charts.specs.Paths.{AlongLines}
use Rattle.charts.specs.declared.line.Line.{Line}
use Rattle.grammar.specs.Derivations.{Rule}
use Rattle.kat.specs.Algebra.{Allowed}
use Rattle.kat.specs.Terms.{Term}
use Rattle.places.specs.Reading.{means_on}
use Rattle.runs.specs.Runs.{Run, Within}
use Rattle.sheet.specs.Laid.{LaidOut}
use Rattle.signs.specs.Signs.{Mark, signs_of}
use Rattle.vocabulary.specs.Meaning.{Lawful}

-- A rule's text, or a chart's number of states and lines.
pub data Source : Type 0 where
  a_text : List ℕ → Source
  a_chart : ℕ → List Line → Source

-- A sheet as code can have it: its vocabulary is lawful, and it has at most 16 actions.
pub record LawfulSheet (laid : LaidOut) : Type 0 where
  pub vocabulary : Lawful laid.meaning
  pub actions : length laid.names.actions ≤ 16

-- A run of the situations and the named actions of a sheet.
abbrev pub InRange : LaidOut → Run → Type 0
InRange laid run = Within laid.meaning.situations (length laid.names.actions) run

-- A text allows a run where it has signs, they are a rule by the names of the sheet, and the term of this rule allows the run under Kleene algebra with
-- tests, tests holding where the vocabulary says. A chart allows the runs along its lines.
abbrev pub SourceAllows : LaidOut → Source → Run → Type 0
SourceAllows laid (a_text text) run =
    (signs : List Mark) × (e : Term) × (signs_of text ≡ Ok signs) × Rule (means_on laid) signs e × Allowed laid.meaning.holds e run
SourceAllows laid (a_chart states lines) run = AlongLines lines run

-- Two sources allow the same runs.
abbrev pub SameSourceRuns : LaidOut → Source → Source → Type 0
SameSourceRuns laid x y = (run : Run) → InRange laid run → (SourceAllows laid x run → SourceAllows laid y run) × (SourceAllows laid y run → SourceAllows laid x run)
