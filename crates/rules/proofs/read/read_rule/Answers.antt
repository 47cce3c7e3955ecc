-- The four ways that a reading ends: a text that is too long, a refusal, too few nodes, and a rule.
use Rattle.std.proofs.Common.{length, Err, sym, ap, ◌∙◌, arith, rules}
use Rattle.std.proofs.lemmas.Result.{err_from_is_err_and}
use Rattle.rules.specs.Builders.{shape_at}
use Rattle.rules.specs.Nodes.{blank}
use Rattle.rules.specs.Readers.{means_of, standing}
use Rattle.rules.specs.Rules.{rule_of}
use Rattle.rules.proofs.Whole.{begun_choice, granted_text, refused_text, room, text_too_long}
use Rattle.rules.proofs.read.read_rule.Goals as goal

pub returns-in-Err-clause-answer : goal.returns-in-Err-clause-answer
returns-in-Err-clause-answer c =
    let begun = c.in-Err.ensures.begins_at_the_first_byte in
    let long = text_too_long (means_of c.args.names.now) c.args.text.now begun.0 in
    rw (long, begun.1)

pub returns-in-Err-clause-nodes_afterwards : goal.returns-in-Err-clause-nodes_afterwards
returns-in-Err-clause-nodes_afterwards c =
    let long = text_too_long (means_of c.args.names.now) c.args.text.now c.in-Err.ensures.begins_at_the_first_byte.0 in
    rw long (c.fill.ensures.after (λ y same. same))

pub returns-in_err-choice-clause-answer : goal.returns-in_err-choice-clause-answer
returns-in_err-choice-clause-answer c =
    let means = means_of c.args.names.now in
    let text = c.args.text.now in
    let nodes = c.args.nodes.now in
    let begun = c.in-Ok.ensures.begins_at_the_first_byte in
    let p = err_from_is_err_and c.from_residual.result c.from_residual.ensures.1 in
    let whole = begun_choice means text nodes c.in-Ok.signs _ _ begun.1 begun.2 c.new-2.ensures.as_defined c.new-2.ensures.no_node c.in_err-choice.ensures.as_defined in
    p.1 ∙ ap Err p.2 ∙ sym (ap (rule_of (length nodes)) (refused_text means text nodes begun.0 _ whole))

pub returns-in_err-choice-clause-nodes_afterwards : goal.returns-in_err-choice-clause-nodes_afterwards
returns-in_err-choice-clause-nodes_afterwards c =
    let means = means_of c.args.names.now in
    let text = c.args.text.now in
    let nodes = c.args.nodes.now in
    let begun = c.in-Ok.ensures.begins_at_the_first_byte in
    let told = c.in_err-choice.ensures in
    let whole = begun_choice means text nodes c.in-Ok.signs _ _ begun.1 begun.2 c.new-2.ensures.as_defined c.new-2.ensures.no_node told.as_defined in
    let lent = sym told.stays.lent in
    let cleared = c.drop-reader.ensures ∙ ap blank (sym told.stays.room) in
    rw (refused_text means text nodes begun.0 _ whole, ← cleared) (search rules)

pub returns-clause-answer : goal.returns-clause-answer
returns-clause-answer c =
    let means = means_of c.args.names.now in
    let text = c.args.text.now in
    let nodes = c.args.nodes.now in
    let last = c.choice.new.self in
    let begun = c.in-Ok.ensures.begins_at_the_first_byte in
    let told = c.in_ok-choice.ensures in
    let whole = begun_choice means text nodes c.in-Ok.signs _ _ begun.1 begun.2 c.new-2.ensures.as_defined c.new-2.ensures.no_node told.as_defined in
    (room means text nodes begun.0 (standing last) (granted_text means text nodes begun.0 (shape_at c.in_ok-choice.field-0 last) whole) (omega (arith, told.stays.room))).0

pub returns-clause-nodes_afterwards : goal.returns-clause-nodes_afterwards
returns-clause-nodes_afterwards c =
    let means = means_of c.args.names.now in
    let text = c.args.text.now in
    let nodes = c.args.nodes.now in
    let last = c.choice.new.self in
    let begun = c.in-Ok.ensures.begins_at_the_first_byte in
    let told = c.in_ok-choice.ensures in
    let whole = begun_choice means text nodes c.in-Ok.signs _ _ begun.1 begun.2 c.new-2.ensures.as_defined c.new-2.ensures.no_node told.as_defined in
    let lent = sym told.stays.lent in
    rw ((room means text nodes begun.0 (standing last) (granted_text means text nodes begun.0 (shape_at c.in_ok-choice.field-0 last) whole) (omega (arith, told.stays.room))).1, ← c.keep.ensures) (search rules)
