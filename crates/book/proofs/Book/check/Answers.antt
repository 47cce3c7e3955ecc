-- The check on the flows of both texts answers, and a list that passes it shows that the texts allow the same runs.
use Rattle.std.proofs.Common.{map, ap, ◌∙◌}
use Rattle.places.specs.Meaning.{rule_meaning}
use Rattle.walk.specs.Records.{pair_of}
use Rattle.book.specs.Books.{book_of}
use Rattle.book.specs.Checking.{checked_of}
use Rattle.book.specs.Comparing.{by_walk}
use Rattle.book.proofs.Answering.{passing_texts}
use Rattle.book.proofs.Book.check.Goals as goal

pub returns : goal.returns
returns c =
    let book = book_of c.args.self.now in
    let left = c.args.left.now in
    let right = c.args.right.now in
    let list = map pair_of c.args.list.now in
    let f = rule_meaning c.in_ok-both.both.left in
    let g = rule_meaning c.in_ok-both.both.right in
    let flows = c.in_ok-both.ensures in
    let told = c.in_ok-check.ensures in
    let found = c.in_ok-check.field-0 in
    record {
      answer = ap by_walk told.answer ∙ ap (checked_of list) flows.answer;
      passing_means_same_runs = passing_texts book left right f g list found flows.flow_of_the_left flows.flow_of_the_right told.a_list_convinces_exactly_when_runs_agree told.answer;
    }
