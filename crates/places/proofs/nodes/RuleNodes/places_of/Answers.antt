-- Each node has the places of its parts, and the rule those of its root.
use Rattle.std.proofs.Common.{◌≡◌, ◌-◌, ◌∙◌, length, get_or, arith, rules}
use Rattle.tables.specs.Parts.{action_node}
use Rattle.tables.proofs.Turns.{action_told}
use Rattle.places.proofs.Upward.{none_behind, told_at}
use Rattle.places.proofs.nodes.RuleNodes.places_of.Goals as goal

pub returns : goal.returns
returns c =
    let nodes = c.args.self.now.nodes.now in
    let masks = c.masks.result.items in
    let upward = c.masks.ensures.upward in
    let tells = action_told nodes masks (none_behind _ nodes masks upward) c.args.action
    (λ k lt.
    let at = upward.made k lt in
    let told = at.told in
    let gave : get_or masks k 0 ≡ action_node c.args.action (λ p. get_or at.step.front.now p 0) at.step.node = search rules in
    told_at (λ i. action_node c.args.action) _ nodes masks k at (omega (arith, upward.long)) gave) in
    record { owned = c.at_root.ensures.of_last ∙ tells (length nodes - 1) }
