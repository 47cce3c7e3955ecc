-- What checking a list on two texts answers, and what it says of the runs of the texts that the list passes.
use Rattle.std.specs.Prelude.{◌≡◌, ℕ, List, Ok, Err, Result}
use Rattle.runs.specs.Pairs.{Pair}
use Rattle.walk.specs.Checked.{checked}
use Rattle.walk.specs.declared.verdict.Finding.{Finding}
use Rattle.walk.specs.declared.verdict.Finding.TheVariants.{Passes}
use Rattle.book.specs.Books.{Holdings}
use Rattle.book.specs.Comparing.{TwoFlows, by_walk, flows_in}
use Rattle.book.specs.TextRuns.{SameTextRuns}
use Rattle.book.specs.declared.fault.TextFault.{TextFault}

-- The list is checked on the flows of two texts, unless a text is refused.
abbrev pub checked_of : List Pair → Result TwoFlows TextFault → Result Finding TextFault
checked_of list (Ok both) = by_walk (checked both.left both.right list)
checked_of list (Err fault) = Err fault

-- The answer of check on two texts and a list.
abbrev pub checked_in : Holdings → List ℕ → List ℕ → List Pair → Result Finding TextFault
checked_in book left right list = checked_of list (flows_in book left right)

-- Where the list passes, the two texts allow the same runs.
abbrev pub PassingMeansSameRuns : Holdings → List ℕ → List ℕ → Result Finding TextFault → Type 0
PassingMeansSameRuns book left right r = r ≡ Ok Passes → SameTextRuns book left right
