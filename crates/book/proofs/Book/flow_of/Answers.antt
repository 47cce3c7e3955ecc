-- The flow that was read, by the names and the meaning that the sheet of the book has.
use Rattle.book.specs.Books.{book_of}
use Rattle.book.proofs.TextFlows.{answered_flow}
use Rattle.book.proofs.Book.flow_of.Goals as goal

pub returns : goal.returns
returns c =
    let told = c.read.ensures in
    record {
      answer = told.answer;
      allows_exactly_the_runs_of_the_rule = told.allows_exactly_the_runs_of_the_rule;
      flow_of_the_text = answered_flow (book_of c.args.self.now) c.args.text.now c.read.result told.answer told.allows_exactly_the_runs_of_the_rule told.granted_exactly_for_rules;
    }
