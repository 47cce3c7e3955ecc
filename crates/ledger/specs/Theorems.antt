-- What is shown of books: which flows are in them, and what their groups mean.
use Rattle.std.specs.Prelude.{◌≡◌, ℕ, List, Some, None}
use Rattle.sheet.specs.Laid.{LaidOut}
use Rattle.ledger.specs.Calls.{Call, filed_in, group, in_group, performed, refused, no_such_flow}
use Rattle.ledger.specs.Histories.{book_after, events_of, source_of, standing}
use Rattle.ledger.specs.Ledgers.{Ledger, opened}
use Rattle.ledger.specs.Sources.{LawfulSheet, SameSourceRuns, Source}

-- After any list of calls, granted or refused and in any order, group answers a number for the names of the flows that are in the book, and refuses every
-- other name; and two flows in the book have equal group numbers exactly when they allow the same runs.
pub record GroupsMeanRuns (laid : LaidOut) (calls : List Call) : Type 0 where
  pub in_the_book : (name : List ℕ) (source : Source) → source_of (standing (events_of (opened laid) calls)) name ≡ Some source
      → (number : ℕ) × ((performed (book_after (opened laid) calls) (group name)).answer ≡ in_group number)
  pub not_in_the_book : (name : List ℕ) → source_of (standing (events_of (opened laid) calls)) name ≡ None
      → (performed (book_after (opened laid) calls) (group name)).answer ≡ refused (no_such_flow 1)
  pub same_number_same_runs : (x y : List ℕ) (p q : Source) (number : ℕ)
      → source_of (standing (events_of (opened laid) calls)) x ≡ Some p → source_of (standing (events_of (opened laid) calls)) y ≡ Some q
      → (performed (book_after (opened laid) calls) (group x)).answer ≡ in_group number → (performed (book_after (opened laid) calls) (group y)).answer ≡ in_group number
      → SameSourceRuns laid p q
  pub same_runs_same_number : (x y : List ℕ) (p q : Source) (m n : ℕ)
      → source_of (standing (events_of (opened laid) calls)) x ≡ Some p → source_of (standing (events_of (opened laid) calls)) y ≡ Some q
      → (performed (book_after (opened laid) calls) (group x)).answer ≡ in_group m → (performed (book_after (opened laid) calls) (group y)).answer ≡ in_group n
      → SameSourceRuns laid p q → m ≡ n

abbrev pub GroupsMeanRunsAlways : Type 0
GroupsMeanRunsAlways = (laid : LaidOut) → LawfulSheet laid → (calls : List Call) → GroupsMeanRuns laid calls

-- A granted file or chart changes no other flow's group.
abbrev pub FilingKeepsGroups : Type 0
FilingKeepsGroups = (ledger : Ledger) (call : Call) (number : ℕ) → (performed ledger call).answer ≡ filed_in number
    → (name : List ℕ) (g : ℕ) → (performed ledger (group name)).answer ≡ in_group g → (performed (performed ledger call).after (group name)).answer ≡ in_group g
