-- What the reader of rules gives, by the names that the sheet of the book has.
use Rattle.std.proofs.Common.{ap, ◌∙◌, subst}
use Rattle.rules.specs.Granted.{GrantedExactlyForRules}
use Rattle.rules.specs.Rules.{read_text, rule_of}
use Rattle.sheet.specs.Naming.{NameList, meaning_of}
use Rattle.book.proofs.Book.read.Goals as goal

pub returns : goal.returns
returns c =
    let text = c.args.text.now in
    record {
      answer =
          c.read_rule.ensures.answer
          ∙ ap (λ (names : NameList). rule_of 255 (read_text (meaning_of names) text)) c.names.ensures;
      granted_exactly_for_rules =
          subst (λ (names : NameList). GrantedExactlyForRules (meaning_of names) text) c.names.ensures
          c.read_rule.ensures.granted_exactly_for_rules;
    }
