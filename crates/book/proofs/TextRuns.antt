-- What the walk says of the runs of two flows, said of the runs of the texts whose flows they are.
use Rattle.std.proofs.Common.{◌≡◌, ℕ, true, false, List, sym, ◌∙◌, subst}
use Rattle.std.proofs.lemmas.Bool.{true≢false}
use Rattle.runs.specs.Flows.{FlowMeaning, allows}
use Rattle.runs.specs.Runs.{Run, Within}
use Rattle.walk.specs.Promises as walks
use Rattle.walk.specs.Promises.{RunOf, SameRunsOf, flow_at, other_flow}
use Rattle.walk.specs.declared.verdict.Side.{Side}
use Rattle.walk.specs.declared.verdict.Side.TheVariants.{Left, Right}
use Rattle.book.specs.Books.{Holdings}
use Rattle.book.specs.Judging.{DifferentSays, other_text, text_at}
use Rattle.book.specs.TextRuns.{AllowAlike, FlowOfText, InRange, SameTextRuns, TextAllows}

-- A run of the book is one of the flow of a text,
run_of_flow : (book : Holdings) (text : List ℕ) (flow : FlowMeaning) → FlowOfText book text flow → (run : Run) → InRange book run → RunOf flow run
run_of_flow book text flow of run within =
    subst (λ n. Within n flow.actions run) (sym of.situations) (subst (λ k. Within book.sheet.meaning.situations k run) (sym of.actions) within)

-- and the other way round.
run_of_book : (book : Holdings) (text : List ℕ) (flow : FlowMeaning) → FlowOfText book text flow → (run : Run) → RunOf flow run → InRange book run
run_of_book book text flow of run within =
    subst (λ k. Within book.sheet.meaning.situations k run) of.actions (subst (λ n. Within n flow.actions run) of.situations within)

-- Where the flows answer the same of a run, one text allows it exactly when the other does.
alike_by_flows : (book : Holdings) (left right : List ℕ) (f g : FlowMeaning) → FlowOfText book left f → FlowOfText book right g
    → (run : Run) → InRange book run → allows f run ≡ allows g run → AllowAlike book left right run
alike_by_flows book left right f g of_left of_right run within same =
    (λ allowed. of_right.no_more run within (sym same ∙ of_left.no_less run within allowed), λ allowed. of_left.no_more run within (same ∙ of_right.no_less run within allowed))

-- Texts whose flows allow the same runs allow the same runs.
pub same_text_runs : (book : Holdings) (left right : List ℕ) (f g : FlowMeaning) → FlowOfText book left f → FlowOfText book right g
    → SameRunsOf f g → SameTextRuns book left right
same_text_runs book left right f g of_left of_right same run within =
    alike_by_flows book left right f g of_left of_right run within (same run (run_of_flow book left f of_left run within))

-- A run that the flow of a side allows is allowed by the text of this side,
allowed_at : (book : Holdings) (left right : List ℕ) (f g : FlowMeaning) → FlowOfText book left f → FlowOfText book right g
    → (side : Side) (run : Run) → InRange book run → allows (flow_at f g side) run ≡ true → TextAllows book (text_at left right side) run
allowed_at book left right f g of_left of_right Left run within so = of_left.no_more run within so
allowed_at book left right f g of_left of_right Right run within so = of_right.no_more run within so

-- and one that the flow of the other side does not allow is not allowed by the text of that.
not_allowed_at : (book : Holdings) (left right : List ℕ) (f g : FlowMeaning) → FlowOfText book left f → FlowOfText book right g
    → (side : Side) (run : Run) → InRange book run → allows (other_flow f g side) run ≡ false → TextAllows book (other_text left right side) run → ⊥
not_allowed_at book left right f g of_left of_right Left run within not_so allowed = true≢false (sym (of_right.no_less run within allowed) ∙ not_so)
not_allowed_at book left right f g of_left of_right Right run within not_so allowed = true≢false (sym (of_left.no_less run within allowed) ∙ not_so)

-- A shortest run on which the flows part is one on which the texts do.
pub different_texts : (book : Holdings) (left right : List ℕ) (f g : FlowMeaning) → FlowOfText book left f → FlowOfText book right g
    → (buffer : List ℕ) (n : ℕ) (side : Side) → walks.DifferentSays f g buffer n side → DifferentSays book left right buffer n side
different_texts book left right f g of_left of_right buffer n side says =
    let within = run_of_book book left f of_left says.run says.in_range in
    record {
      run = says.run;
      read_back = says.read_back;
      as_many_actions = says.as_many_actions;
      in_range = within;
      allowed_there = allowed_at book left right f g of_left of_right side says.run within says.allowed_there;
      not_on_the_other = not_allowed_at book left right f g of_left of_right side says.run within says.not_on_the_other;
      none_shorter = λ other within fewer. alike_by_flows book left right f g of_left of_right other within (says.none_shorter other (run_of_flow book left f of_left other within) fewer);
    }
