-- What the answers of judge and check say of runs.
use Rattle.std.specs.Prelude.{◌≡◌, ℕ, ◌<◌, true, false, List, map, length, take, Some, Ok, Err, Result}
use Rattle.runs.specs.Flows.{FlowMeaning, SameRuns, allows}
use Rattle.runs.specs.Pairs.{AllMeeting, Apart, FewMeeting, Pair}
use Rattle.runs.specs.Runs.{Run, Within, actions_of, run_of}
use Rattle.walk.specs.Checked.{checked}
use Rattle.walk.specs.Judged.{alike, bytes_of, judged}
use Rattle.walk.specs.Records.{pair_of}
use Rattle.walk.specs.declared.fault.WalkFault.{WalkFault}
use Rattle.walk.specs.declared.fault.WalkFault.TheVariants.{BufferTooShort, TableFull, TableTooLarge, Unlike}
use Rattle.walk.specs.declared.record.PairRecord.{PairRecord}
use Rattle.walk.specs.declared.verdict.Finding.TheVariants.{Passes}
use Rattle.walk.specs.declared.verdict.Side.{Side}
use Rattle.walk.specs.declared.verdict.Side.TheVariants.{Left, Right}
use Rattle.walk.specs.declared.verdict.Verdict.{Verdict}
use Rattle.walk.specs.declared.verdict.Verdict.TheVariants.{Equal, Different}

-- Two flows allow the same runs, of the situations and actions that they have.
abbrev pub SameRunsOf : FlowMeaning → FlowMeaning → Type 0
SameRunsOf f g = SameRuns f.situations f.actions f g

-- A run of the situations and actions that the flows have.
abbrev pub RunOf : FlowMeaning → Run → Type 0
RunOf f run = Within f.situations f.actions run

-- Equal: the two allow the same runs, and the first so many pairs of the table pass the check.
pub record EqualSays (f g : FlowMeaning) (table : List PairRecord) (count : ℕ) : Type 0 where
  pub same_runs : SameRunsOf f g
  pub list_passes : checked f g (map (λ entry. pair_of entry.pair) (take count table)) ≡ Ok Passes

-- The flow of a side, and that of the other.
abbrev pub flow_at : FlowMeaning → FlowMeaning → Side → FlowMeaning
flow_at f g Left = f
flow_at f g Right = g

abbrev pub other_flow : FlowMeaning → FlowMeaning → Side → FlowMeaning
other_flow f g Left = g
other_flow f g Right = f

-- Different: the run buffer begins with a run of so many actions, which the side named allows and the other does not; no run that exactly one of the two
-- allows has fewer actions, and the run ends in the lowest situation that tells the two apart there.
pub record DifferentSays (f g : FlowMeaning) (buffer : List ℕ) (n : ℕ) (side : Side) : Type 0 where
  pub run : Run
  pub read_back : run_of (take (bytes_of n) buffer) ≡ Some run
  pub as_many_actions : actions_of run ≡ n
  pub in_range : RunOf f run
  pub allowed_there : allows (flow_at f g side) run ≡ true
  pub not_on_the_other : allows (other_flow f g side) run ≡ false
  pub none_shorter : (other : Run) → RunOf f other → actions_of other < n → allows f other ≡ allows g other
  pub lowest_last : (s : ℕ) → s < run.last → allows f (record { moves = run.moves; last = s }) ≡ allows g (record { moves = run.moves; last = s })

-- Full: there are more meeting pairs than the table has records.
pub record FullSays (f g : FlowMeaning) (room : ℕ) : Type 0 where
  pub pairs : List Pair
  pub apart : Apart pairs
  pub meeting : AllMeeting f.situations f.actions f g pairs
  pub more : room < length pairs

-- What an answer of judge says, with the table and the run buffer as they then are.
abbrev pub Says : FlowMeaning → FlowMeaning → List PairRecord → List ℕ → Result Verdict WalkFault → Type 0
Says f g table buffer (Ok (Equal count)) = EqualSays f g table count
Says f g table buffer (Ok (Different n side)) = DifferentSays f g buffer n side
Says f g table buffer (Err TableFull) = FullSays f g (length table)
Says f g table buffer (Err TableTooLarge) = Unit {0}
Says f g table buffer (Err Unlike) = Unit {0}
Says f g table buffer (Err (BufferTooShort wanted)) = Unit {0}

-- The same for each answer apart.
abbrev pub IfEqual : FlowMeaning → FlowMeaning → List PairRecord → Result Verdict WalkFault → Type 0
IfEqual f g table r = (count : ℕ) → r ≡ Ok (Equal count) → EqualSays f g table count

abbrev pub IfDifferent : FlowMeaning → FlowMeaning → List ℕ → Result Verdict WalkFault → Type 0
IfDifferent f g buffer r = (n : ℕ) (side : Side) → r ≡ Ok (Different n side) → DifferentSays f g buffer n side

abbrev pub IfFull : FlowMeaning → FlowMeaning → ℕ → Result Verdict WalkFault → Type 0
IfFull f g room r = r ≡ Err TableFull → FullSays f g room

-- For flows that are alike and have at most 2,048 meeting pairs, a list convinces exactly when runs agree: they allow the same runs exactly when
-- some list passes the check, and judge with a table of 2,048 records then answers equal.
pub record AListConvinces (f g : FlowMeaning) : Type 0 where
  pub list_for_same_runs : alike f g ≡ true → FewMeeting f.situations f.actions f g 2048 → SameRunsOf f g → (list : List Pair) × (checked f g list ≡ Ok Passes)
  pub same_runs_for_list : (list : List Pair) → checked f g list ≡ Ok Passes → SameRunsOf f g
  pub found_equal : alike f g ≡ true → FewMeeting f.situations f.actions f g 2048 → SameRunsOf f g → (buffer : ℕ) → (count : ℕ) × (judged f g 2048 buffer ≡ Ok (Equal count))
