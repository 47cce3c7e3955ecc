-- Each turn tells one node's mask more.
use Rattle.std.proofs.Common.{◌+◌, refl, subst, sym}
use Rattle.places.proofs.Upward.{MadeSofar, none_made, more_made}
use Rattle.places.proofs.nodes.RuleNodes.masks.Goals as goal

pub loop-node-init : goal.loop-node-init
loop-node-init g c = subst (MadeSofar (goal.F-post g c.args.tell) c.args.self.now.nodes.now 0) (sym c.new-masks.ensures) (none_made (goal.F-post g c.args.tell) c.args.self.now.nodes.now)

pub loop-node-preserved : goal.loop-node-preserved
loop-node-preserved g c =
    let tells = goal.F-post g c.args.tell in
    let nodes = c.args.self.now.nodes.now in
    subst (MadeSofar tells nodes (c.loop-node.node-index + 1)) (sym c.push.ensures.items)
    (more_made tells nodes c.loop-node.node-index c.tell-mask.result c.loop-node.masks.items _ c.loop-node.invariant refl c.deref.ensures.0 c.tell-mask.ensures)
