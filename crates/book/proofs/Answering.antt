-- What judging and checking two texts says of their runs: from what the walk answered on their flows.
use Rattle.std.proofs.Common.{◌≡◌, ℕ, List, Ok, Result, sym, ap, ◌∙◌}
use Rattle.runs.specs.Flows.{FlowMeaning}
use Rattle.runs.specs.Pairs.{Pair}
use Rattle.walk.specs.Checked.{checked}
use Rattle.walk.specs.Promises.{AListConvinces, IfDifferent, IfEqual}
use Rattle.walk.specs.declared.record.PairRecord.{PairRecord}
use Rattle.walk.specs.declared.verdict.Finding.{Finding}
use Rattle.walk.specs.declared.verdict.Finding.TheVariants.{Passes}
use Rattle.walk.specs.declared.verdict.Verdict.{Verdict}
use Rattle.walk.specs.declared.verdict.Verdict.TheVariants.{Equal, Different}
use Rattle.book.specs.Books.{Holdings}
use Rattle.book.specs.Checking.{PassingMeansSameRuns, checked_of}
use Rattle.book.specs.Comparing.{by_walk, flows_in}
use Rattle.book.specs.Judging.{DifferentShowsAShortestRun, EqualMeansSameRuns}
use Rattle.book.specs.TextRuns.{FlowOfText}
use Rattle.book.specs.declared.fault.TextFault.{TextFault}
use Rattle.book.proofs.TextRuns.{different_texts, same_text_runs}

-- What is granted is one value.
granted_is : {A : Type 0} (x y : A) → ◌≡◌ {A = Result A TextFault} (Ok x) (Ok y) → x ≡ y
granted_is x y is = cc

-- Equal: the texts allow the same runs, and the pairs in the table pass.
pub equal_texts : (book : Holdings) (left right : List ℕ) (f g : FlowMeaning) (table : List PairRecord) (verdict : Verdict) → FlowOfText book left f → FlowOfText book right g
    → Ok (record { left = f; right = g }) ≡ flows_in book left right → IfEqual f g table (Ok verdict) → EqualMeansSameRuns book left right table (Ok verdict)
equal_texts book left right f g table verdict of_left of_right flows says count is =
    let told = says count (ap Ok (granted_is verdict (Equal count) is)) in
    record {
      same_runs = same_text_runs book left right f g of_left of_right told.same_runs;
      list_passes = sym (ap (checked_of _) flows) ∙ ap by_walk told.list_passes;
    }

-- Different: a shortest run is shown.
pub parted_texts : (book : Holdings) (left right : List ℕ) (f g : FlowMeaning) (buffer : List ℕ) (verdict : Verdict) → FlowOfText book left f → FlowOfText book right g
    → IfDifferent f g buffer (Ok verdict) → DifferentShowsAShortestRun book left right buffer (Ok verdict)
parted_texts book left right f g buffer verdict of_left of_right says n side is =
    different_texts book left right f g of_left of_right buffer n side (says n side (ap Ok (granted_is verdict (Different n side) is)))

-- A list that passes.
pub passing_texts : (book : Holdings) (left right : List ℕ) (f g : FlowMeaning) (list : List Pair) (found : Finding) → FlowOfText book left f → FlowOfText book right g
    → AListConvinces f g → Ok found ≡ checked f g list → PassingMeansSameRuns book left right (Ok found)
passing_texts book left right f g list found of_left of_right convinces answer is =
    same_text_runs book left right f g of_left of_right (convinces.same_runs_for_list list (sym answer ∙ ap Ok (granted_is found Passes is)))
