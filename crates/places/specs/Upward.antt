-- How masks are made node by node, each from those of the nodes in front of it.
use Rattle.std.specs.Prelude.{◌≡◌, ℕ, ◌<◌, List, length, take, slice_index, slice_index_or}
use Rattle.rules.specs.declared.node.Node.{Node}
use Rattle.rules.specs.declared.node.Node.TheVariants.{Empty}
use Rattle.places.specs.declared.step.Step.{Step}

-- The mask of node k is what was told of it in a step that has the masks of the nodes in front of it.
pub record MadeAt (gives : Step → ℕ → Type 0) (nodes : List Node) (masks : List ℕ) (k : ℕ) : Type 0 where
  pub step : Step
  pub of_node : step.node ≡ slice_index_or nodes k Empty
  pub of_front : step.front.now ≡ take k masks
  pub told : gives step (slice_index masks k)

-- Each node has its mask, and there are no others.
pub record MadeUpward (gives : Step → ℕ → Type 0) (nodes : List Node) (masks : List ℕ) : Type 0 where
  pub long : length masks ≡ length nodes
  pub made : (k : ℕ) → k < length nodes → MadeAt gives nodes masks k
