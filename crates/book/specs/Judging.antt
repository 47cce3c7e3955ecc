-- What judging two texts answers and leaves, and what its answers say of the runs of the texts.
use Rattle.std.specs.Prelude.{◌≡◌, ℕ, ◌<◌, List, map, take, Some, Ok, Err, Result}
use Rattle.runs.specs.Runs.{Run, actions_of, run_of}
use Rattle.walk.specs.Judged.{buffer_after, bytes_of, judged, table_after}
use Rattle.walk.specs.Records.{pair_of}
use Rattle.walk.specs.declared.record.PairRecord.{PairRecord}
use Rattle.walk.specs.declared.verdict.Finding.TheVariants.{Passes}
use Rattle.walk.specs.declared.verdict.Side.{Side}
use Rattle.walk.specs.declared.verdict.Side.TheVariants.{Left, Right}
use Rattle.walk.specs.declared.verdict.Verdict.{Verdict}
use Rattle.walk.specs.declared.verdict.Verdict.TheVariants.{Equal, Different}
use Rattle.book.specs.Books.{Holdings}
use Rattle.book.specs.Checking.{checked_in}
use Rattle.book.specs.Comparing.{TwoFlows, by_walk, flows_in}
use Rattle.book.specs.TextRuns.{AllowAlike, InRange, SameTextRuns, TextAllows}
use Rattle.book.specs.declared.fault.TextFault.{TextFault}

-- The flows of two texts are judged, with a table of so many records and a run buffer of so many bytes, unless a text is refused.
abbrev pub judged_of : ℕ → ℕ → Result TwoFlows TextFault → Result Verdict TextFault
judged_of room buffer (Ok both) = by_walk (judged both.left both.right room buffer)
judged_of room buffer (Err fault) = Err fault

-- The answer of judge on two texts.
abbrev pub judged_in : Holdings → List ℕ → List ℕ → ℕ → ℕ → Result Verdict TextFault
judged_in book left right room buffer = judged_of room buffer (flows_in book left right)

-- The table afterwards: as the walk leaves it, and as it was where a text is refused.
abbrev pub table_by : List PairRecord → Result TwoFlows TextFault → List PairRecord
table_by table (Ok both) = table_after both.left both.right table
table_by table (Err fault) = table

-- The same by the book and the texts.
abbrev pub table_in : Holdings → List ℕ → List ℕ → List PairRecord → List PairRecord
table_in book left right table = table_by table (flows_in book left right)

-- The run buffer afterwards: as the walk leaves it, and as it was where a text is refused.
abbrev pub run_by : ℕ → List ℕ → Result TwoFlows TextFault → List ℕ
run_by room buffer (Ok both) = buffer_after both.left both.right room buffer
run_by room buffer (Err fault) = buffer

-- The same by the book and the texts.
abbrev pub run_in : Holdings → List ℕ → List ℕ → ℕ → List ℕ → List ℕ
run_in book left right room buffer = run_by room buffer (flows_in book left right)

-- Equal: the two texts allow the same runs, and the first so many pairs of the table pass the check on them.
pub record EqualSays (book : Holdings) (left right : List ℕ) (table : List PairRecord) (count : ℕ) : Type 0 where
  pub same_runs : SameTextRuns book left right
  pub list_passes : checked_in book left right (map (λ entry. pair_of entry.pair) (take count table)) ≡ Ok Passes

-- The answer Equal says so.
abbrev pub EqualMeansSameRuns : Holdings → List ℕ → List ℕ → List PairRecord → Result Verdict TextFault → Type 0
EqualMeansSameRuns book left right table r = (count : ℕ) → r ≡ Ok (Equal count) → EqualSays book left right table count

-- The text of a side, and that of the other.
abbrev pub text_at : List ℕ → List ℕ → Side → List ℕ
text_at left right Left = left
text_at left right Right = right

abbrev pub other_text : List ℕ → List ℕ → Side → List ℕ
other_text left right Left = right
other_text left right Right = left

-- Different: the run buffer begins with a run of so many actions, which the text of the side named allows and the other does not; every run that has
-- fewer actions is allowed by both texts or by neither.
pub record DifferentSays (book : Holdings) (left right : List ℕ) (buffer : List ℕ) (n : ℕ) (side : Side) : Type 0 where
  pub run : Run
  pub read_back : run_of (take (bytes_of n) buffer) ≡ Some run
  pub as_many_actions : actions_of run ≡ n
  pub in_range : InRange book run
  pub allowed_there : TextAllows book (text_at left right side) run
  pub not_on_the_other : TextAllows book (other_text left right side) run → ⊥
  pub none_shorter : (other : Run) → InRange book other → actions_of other < n → AllowAlike book left right other

-- The answer Different says so.
abbrev pub DifferentShowsAShortestRun : Holdings → List ℕ → List ℕ → List ℕ → Result Verdict TextFault → Type 0
DifferentShowsAShortestRun book left right buffer r =
    (n : ℕ) (side : Side) → r ≡ Ok (Different n side) → DifferentSays book left right buffer n side
