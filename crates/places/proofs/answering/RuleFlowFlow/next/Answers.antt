-- Within the ranges the next code is read off the row of the situation and the mask of the action.
use Rattle.std.proofs.Common.{[], get_or, sym, ap, ◌∙◌, arith}
use lib.Bits.{bit_and}
use Rattle.std.proofs.lemmas.Bool.{and_from, cond-true, lt-ltb}
use Rattle.tables.specs.Tables.{reaches}
use Rattle.tables.proofs.Answers.{next_masked}
use Rattle.places.proofs.answering.RuleFlowFlow.next.Goals as goal

pub returns-then-action-self : goal.returns-then-action-self
returns-then-action-self c =
    let x = c.args.self.now in
    record {
      as_meant =
          ap (λ i. bit_and (get_or x.owned i 0) c.union_of.result) c.from.ensures
          ∙ next_masked (λ p. get_or (get_or x.follows c.args.situation []) p 0) (get_or x.owned c.args.action 0) c.args.code c.union_of.result (omega arith)
          (λ q. c.union_of.ensures q ∙ ap (λ i. reaches (λ p. get_or (get_or x.follows i []) p 0) c.args.code q) c.from-then-action-self.ensures)
          ∙ sym (cond-true _ _ _ (and_from _ _ (lt-ltb c.args.situation x.counts.situations (omega arith)) (lt-ltb c.args.action x.counts.actions (omega arith))));
    }
