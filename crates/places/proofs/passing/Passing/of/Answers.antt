-- Each node passes as its parts do.
use Rattle.std.proofs.Common.{◌≡◌, true, get_or, ap, ◌∙◌, arith, rules}
use Rattle.masks.specs.Bits.{bits_below}
use Rattle.tables.specs.Parts.{pass_node}
use Rattle.tables.proofs.Turns.{pass_told}
use Rattle.vocabulary.specs.Copies.{copied_meaning, copied_lawful}
use Rattle.places.proofs.Upward.{none_behind, told_at}
use Rattle.places.proofs.passing.Passing.of.Goals as goal

pub returns-clause-passing : goal.returns-clause-passing
returns-clause-passing c =
    let m = copied_meaning c.args.vocabulary.now in
    let nodes = c.args.rule.nodes.now in
    let masks = c.masks.result.items in
    let upward = c.masks.ensures.upward in
    let step = pass_node (bits_below (λ s. true) m.situations) (λ t. bits_below (m.holds t) m.situations) in
    let whole : c.all_of-all.result ≡ bits_below (λ s. true) m.situations = c.all_of-all.ensures.all ∙ ap (bits_below (λ s. true)) c.situations.ensures.as_meant in
    pass_told nodes masks (none_behind _ nodes masks upward) m.situations m.holds (copied_lawful c.args.vocabulary.now).most
    (λ k lt.
    let at = upward.made k lt in
    let told = at.told in
    let gave : get_or masks k 0 ≡ pass_node c.all_of-all.result (λ t. bits_below (m.holds t) m.situations) (λ p. get_or at.step.front.now p 0) at.step.node = search rules in
    told_at (λ i. step) _ nodes masks k at (omega (arith, upward.long)) (gave ∙ ap (λ all. pass_node all (λ t. bits_below (m.holds t) m.situations) (λ p. get_or at.step.front.now p 0) at.step.node) whole))
