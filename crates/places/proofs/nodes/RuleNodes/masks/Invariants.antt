-- The nodes gone through have their masks.
use Rattle.places.proofs.Upward.{MadeSofar}
use Rattle.places.proofs.nodes.RuleNodes.masks.Given as goal

abbrev pub invariant-loop-node : goal.invariant-loop-node
invariant-loop-node g l = MadeSofar (goal.F-post g l.tell) l.self.nodes.now l.node-index l.masks.items
