-- A refusal is handed on, and the flow of a text that is granted is that of the nodes that it was laid out in.
use Rattle.std.proofs.Common.{◌≡◌, length, take, IfOk, Err, Result, sym, ap, ◌∙◌, subst, arith}
use Rattle.std.proofs.lemmas.Result.{err_from_is_err_and}
use Rattle.grammar.specs.declared.fault.RuleFault.{RuleFault}
use Rattle.rules.specs.Granted.{GrantedExactlyForRules}
use Rattle.rules.specs.Readers.{means_of}
use Rattle.rules.specs.Rules.{nodes_after, read_text, rule_of}
use Rattle.sheet.specs.Laid.{sheet_of}
use Rattle.sheet.specs.Naming.{meaning_of}
use Rattle.tables.specs.Masks.{term_of}
use Rattle.places.specs.Meaning.{IsThePlacesOf, rule_meaning}
use Rattle.places.specs.Reading.{AllowsTheRunsOf, means_on, meant, text_on}
use Rattle.places.specs.declared.flow.RuleFlow.{RuleFlow}
use Rattle.places.proofs.GrantedTerms.{granted_term}
use Rattle.places.proofs.Told.{found, granted_flow, refused_flow}
use Rattle.places.proofs.flow.RuleFlow.read.Goals as goal

pub returns-in_err-rule : goal.returns-in_err-rule
returns-in_err-rule c =
    let laid = sheet_of c.args.sheet.now in
    let text = c.args.text.now in
    let nodes = c.args.nodes.now in
    let told = c.in_err-rule.ensures in
    let p = err_from_is_err_and c.from_residual.result c.from_residual.ensures.1 in
    let means : means_of c.names.result.now ≡ means_on laid = ap meaning_of c.names.ensures in
    let read : read_text (means_of c.names.result.now) text ≡ text_on laid text = ap (λ means. read_text means text) means in
    let fault = told.answer ∙ ap (rule_of (length nodes)) read in
    record {
      answer = ap meant (p.1 ∙ ap Err p.2) ∙ refused_flow laid (length nodes) (text_on laid text) _ fault;
      allows_exactly_the_runs_of_the_rule = subst (λ (r : Result RuleFlow RuleFault). IfOk r (λ flow. AllowsTheRunsOf laid text (rule_meaning flow))) (sym p.1) tt;
      nodes_afterwards = told.nodes_afterwards ∙ ap (nodes_after nodes) read;
      granted_exactly_for_rules = subst (λ means. GrantedExactlyForRules means text) means told.granted_exactly_for_rules;
    }

pub returns : goal.returns
returns c =
    let laid = sheet_of c.args.sheet.now in
    let text = c.args.text.now in
    let nodes = c.args.nodes.now in
    let rule = c.in_ok-rule.rule in
    let told = c.in_ok-rule.ensures in
    let means : means_of c.names.result.now ≡ means_on laid = ap meaning_of c.names.ensures in
    let read : read_text (means_of c.names.result.now) text ≡ text_on laid text = ap (λ means. read_text means text) means in
    let granted = subst (λ means. GrantedExactlyForRules means text) means told.granted_exactly_for_rules in
    let one = found (length nodes) (text_on laid text) rule (told.answer ∙ ap (rule_of (length nodes)) read) in
    let whole = granted_flow laid (length nodes) text (rule_meaning c.over.result) granted one
    (subst (λ e. IsThePlacesOf laid e (rule_meaning c.over.result))
    (granted_term (read_text (means_of c.names.result.now) text) rule nodes c.read_rule.new.nodes (omega arith) told.answer told.nodes_afterwards one.term (read ∙ one.is))
    (subst (λ k. IsThePlacesOf laid (term_of (take 256 (take k c.read_rule.new.nodes))) (rule_meaning c.over.result)) c.from.ensures c.over.ensures.as_its_places)) in
    record {
      answer = whole.answer;
      allows_exactly_the_runs_of_the_rule = whole.runs;
      nodes_afterwards = told.nodes_afterwards ∙ ap (nodes_after nodes) read;
      granted_exactly_for_rules = granted;
    }
