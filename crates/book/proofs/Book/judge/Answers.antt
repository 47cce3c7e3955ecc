-- The walk over the flows of both texts answers, and what it says of the runs of the flows holds of those of the texts.
use Rattle.std.proofs.Common.{length, ap, ◌∙◌}
use Rattle.places.specs.Meaning.{rule_meaning}
use Rattle.book.specs.Books.{book_of}
use Rattle.book.specs.Comparing.{by_walk}
use Rattle.book.specs.Judging.{judged_of, run_by, table_by}
use Rattle.book.proofs.Answering.{equal_texts, parted_texts}
use Rattle.book.proofs.Book.judge.Goals as goal

pub returns : goal.returns
returns c =
    let book = book_of c.args.self.now in
    let left = c.args.left.now in
    let right = c.args.right.now in
    let table = c.args.table.now in
    let run = c.args.run.now in
    let f = rule_meaning c.in_ok-both.both.left in
    let g = rule_meaning c.in_ok-both.both.right in
    let flows = c.in_ok-both.ensures in
    let told = c.in_ok-judge.ensures in
    let verdict = c.in_ok-judge.field-0 in
    record {
      answer = ap by_walk told.answer ∙ ap (judged_of (length table) (length run)) flows.answer;
      table_afterwards = told.table_afterwards ∙ ap (table_by table) flows.answer;
      run_afterwards = told.run_afterwards ∙ ap (run_by (length table) run) flows.answer;
      equal_means_same_runs = equal_texts book left right f g _ verdict flows.flow_of_the_left flows.flow_of_the_right flows.answer told.equal_means_same_runs;
      different_shows_a_shortest_run = parted_texts book left right f g _ verdict flows.flow_of_the_left flows.flow_of_the_right told.different_shows_a_shortest_run;
    }
