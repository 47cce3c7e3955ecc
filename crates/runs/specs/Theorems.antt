-- What is shown of the walk and of the check, for any two flows.
use Rattle.std.specs.Prelude.{◌≡◌, ℕ, ◌<◌, ◌≤◌, List, map, length, Some}
use Rattle.runs.specs.Checks.{finding, passes}
use Rattle.runs.specs.Flows.{FlowMeaning, Lawful, SameRuns}
use Rattle.runs.specs.Pairs.{AllMeeting, Apart, FewMeeting, Pair}
use Rattle.runs.specs.Runs.{Run, run_of}
use Rattle.runs.specs.Tracing.{ShortestApart, shown_run, written}
use Rattle.runs.specs.Walks.{equal, different, full, list_after, walk}

-- A list that passes the check shows that the flows allow the same runs.
abbrev pub PassingShowsSameRuns : Type 0
PassingShowsSameRuns = (n k : ℕ) (f g : FlowMeaning) (list : List Pair) → finding n k f g list ≡ passes → SameRuns n k f g

-- What an equal ending says: so many pairs were listed, within the room; the list passes the check; the runs are the same.
pub record EqualSays (n k room count : ℕ) (f g : FlowMeaning) : Type 0 where
  pub counted : length (list_after n k f g count) ≡ count
  pub in_the_room : count ≤ room
  pub list_passes : finding n k f g (map (λ entry. entry.pair) (list_after n k f g count)) ≡ passes
  pub same_runs : SameRuns n k f g

abbrev pub EqualMeansSameRuns : Type 0
EqualMeansSameRuns = (n k room count : ℕ) (f g : FlowMeaning) → walk n k f g room ≡ equal count → EqualSays n k room count f g

-- A different ending shows a shortest run on which the two part.
abbrev pub DifferentShowsAShortestRun : Type 0
DifferentShowsAShortestRun = (room i : ℕ) (f g : FlowMeaning) → Lawful f → Lawful g → f.situations ≡ g.situations
    → walk f.situations f.actions f g room ≡ different i → ShortestApart f.situations f.actions f g (shown_run f.situations f.actions f g i)

-- A full table means more meeting pairs than it has room for.
abbrev pub FullMeansMorePairs : Type 0
FullMeansMorePairs = (n k room : ℕ) (f g : FlowMeaning) → walk n k f g room ≡ full
    → (pairs : List Pair) × Apart pairs × AllMeeting n k f g pairs × (room < length pairs)

-- With room for all meeting pairs, flows with the same runs are found equal.
abbrev pub SameRunsAreFound : Type 0
SameRunsAreFound = (n k room : ℕ) (f g : FlowMeaning) → SameRuns n k f g → FewMeeting n k f g room
    → Lawful f → Lawful g → f.situations ≡ n → g.situations ≡ n → (count : ℕ) × (walk n k f g room ≡ equal count)

-- A list convinces exactly when runs agree: some list within the room passes the check exactly then.
abbrev pub AListConvinces : Type 0
AListConvinces = (n k room : ℕ) (f g : FlowMeaning) → FewMeeting n k f g room → Lawful f → Lawful g → f.situations ≡ n → g.situations ≡ n
    → (SameRuns n k f g → (list : List Pair) × (length list ≤ room) × (finding n k f g list ≡ passes))
    × ((list : List Pair) × (length list ≤ room) × (finding n k f g list ≡ passes) → SameRuns n k f g)

-- A run that is written down is read back.
abbrev pub WrittenIsReadBack : Type 0
WrittenIsReadBack = (run : Run) → run_of (written run) ≡ Some run
