-- The nodes that are looked at are the first of all.
use Rattle.std.proofs.Common.{◌≡◌, ℕ, ◌<◌, ◌≤◌, List, length, take, min, sym, ap, ◌∙◌, ⊎_elim, arith, rules}
use Rattle.std.proofs.lemmas.List.{take_all}
use Rattle.std.proofs.lemmas.Bool.{cases_lt}
use Rattle.rules.specs.declared.node.Node.{Node}
use Rattle.places.proofs.nodes.RuleNodes.of.Goals as goal

-- As many as there are, and no more than 256, are the first 256.
first_nodes : (nodes : List Node) (count : ℕ) → count ≡ min (length nodes) 256 → take count nodes ≡ take 256 nodes
first_nodes nodes count is =
    ⊎_elim
    (λ (h : length nodes < 256). take_all count nodes (omega arith) ∙ sym (take_all 256 nodes (omega arith)))
    (λ (h : 256 ≤ length nodes). let all : count ≡ 256 = omega arith in ap (λ k. take k nodes) all)
    (cases_lt (length nodes) 256)

pub returns : goal.returns
returns c = record { first = first_nodes c.args.nodes.now c.min.result (search rules) }
