-- The runs of a chart, told by its lines alone: paths along first fitting move lines from state 0, which end at a state
-- with an end line for the last situation.
use Rattle.std.specs.Prelude.{◌≡◌, ℕ, ◌<◌, true, false, List, [], ◌∷◌, Some, Ok, Err, Decides, Result}
use Rattle.std.specs.List.{slice_get}
use Rattle.masks.specs.Bits.{bit}
use Rattle.runs.specs.Runs as runs
use Rattle.runs.specs.Flows.{FlowMeaning, allows}
use Rattle.charts.specs.declared.line.Line.{Line}
use Rattle.charts.specs.declared.line.Line.TheVariants.{Move, End}
use Rattle.charts.specs.declared.fault.ChartFault.{ChartFault}

-- In situation s, action a leads from one state to another: a move line of the first state with this action and with s in its
-- mask leads to the second, and no such line stands before it.
pub record Step (lines : List Line) (from s a to : ℕ) : Type 0 where
  pub place : ℕ
  pub mask : ℕ
  pub stands : slice_get lines place ≡ Some (Move from mask a to)
  pub in_mask : bit s mask ≡ true
  pub first : (earlier other target : ℕ) → earlier < place → slice_get lines earlier ≡ Some (Move from other a target) → bit s other ≡ false

-- The moves go, a step each, from one state to another.
abbrev pub Path : List Line → ℕ → List runs.Move → ℕ → Type 0
Path lines from [] to = from ≡ to
Path lines from (move ∷ moves) to = (between : ℕ) × Step lines from move.situation move.action between × Path lines between moves to

-- A run may end at the state in the situation: an end line of the state has it in its mask.
pub record MayEnd (lines : List Line) (state s : ℕ) : Type 0 where
  pub place : ℕ
  pub mask : ℕ
  pub stands : slice_get lines place ≡ Some (End state mask)
  pub in_mask : bit s mask ≡ true

-- The run goes along the lines from state 0 to a state at which it may end in its last situation.
pub record AlongLines (lines : List Line) (run : runs.Run) : Type 0 where
  pub end : ℕ
  pub path : Path lines 0 run.moves end
  pub ends : MayEnd lines end run.last

-- A granted chart allows exactly the runs along its lines, of all runs within n situations and k actions.
abbrev pub AllowsRunsAlong : (n k : ℕ) → List Line → Result FlowMeaning ChartFault → Type 0
AllowsRunsAlong n k lines (Ok meaning) = (run : runs.Run) → runs.Within n k run → Decides (allows meaning run) (AlongLines lines run)
AllowsRunsAlong n k lines (Err fault) = Unit {0}
