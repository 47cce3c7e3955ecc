-- What is laid out in the nodes of a text that was granted is its term.
use Rattle.std.proofs.Common.{◌≡◌, ℕ, ◌-◌, ◌<◌, Bool, true, false, cond, ltb, List, [], ◌++◌, length, take, drop, Ok, Err, Result, sym, ap, ◌∙◌, ap₂, arith}
use Rattle.std.proofs.lemmas.List.{append-nil, take_all, take-append-le}
use Rattle.grammar.specs.declared.fault.RuleFault.{RuleFault}
use Rattle.grammar.specs.declared.fault.RuleFault.TheVariants.{NoRoom}
use Rattle.kat.specs.Terms.{Term, size}
use Rattle.rules.specs.Nodes.{blank, flat}
use Rattle.tables.specs.Decoded.{decode}
use Rattle.rules.specs.Rules.{actions_in, nodes_after, rule_of}
use Rattle.rules.specs.declared.node.Node.{Node}
use Rattle.rules.specs.declared.rule.Rule.{Rule}
use Rattle.tables.proofs.Decoding.{laid_out_decodes}
use Rattle.rules.proofs.Shapes.{length_flat}
use Rattle.tables.specs.Masks.{term_of}

-- The whole term is read back from its nodes alone.
term_of_flat : (e : Term) → term_of (flat 0 e) ≡ e
term_of_flat e =
    ap (λ n. decode (flat 0 e) (n - 1)) (length_flat 0 e)
    ∙ ap (λ nodes. decode nodes (size e - 1)) (sym (append-nil (flat 0 e)))
    ∙ laid_out_decodes e []

-- Where there is room, the rule and its nodes are the term's.
record Laid (e : Term) (rule : Rule) (before after : List Node) : Type 0 where
  nodes : rule.nodes ≡ size e
  laid : after ≡ flat 0 e ++ drop (size e) before

laid_where : (short : Bool) (e : Term) (rule : Rule) (before after : List Node)
    → ◌≡◌ {A = Result Rule RuleFault} (Ok rule) (cond short (Err NoRoom) (Ok (record { nodes = size e; actions = actions_in e })))
    → after ≡ cond short (blank (length before)) (flat 0 e ++ drop (size e) before) → Laid e rule before after
laid_where true e rule before after is now' = let z : ◌≡◌ {A = ℕ} 0 1 = cc in absurd (omega arith)
laid_where false e rule before after is now' = let same : rule ≡ record { nodes = size e; actions = actions_in e } = cc in record { nodes = ap (λ rule. rule.nodes) same; laid = now' }

-- So its nodes stand for the term.
pub granted_term : (read : Result Term RuleFault) (rule : Rule) (before after : List Node) → rule.nodes < 256
    → Ok rule ≡ rule_of (length before) read → after ≡ nodes_after before read → (e : Term) → read ≡ Ok e → term_of (take 256 (take rule.nodes after)) ≡ e
granted_term read rule before after few answer afterwards e is =
    let so = laid_where (ltb (length before) (size e)) e rule before after (answer ∙ ap (rule_of (length before)) is) (afterwards ∙ ap (nodes_after before) is) in
    let long = length_flat 0 e in
    let count : rule.nodes ≡ length (flat 0 e) = omega (arith, so.nodes) in
    let mine : take rule.nodes after ≡ flat 0 e = ap₂ take count so.laid ∙ take-append-le (length (flat 0 e)) (flat 0 e) (drop (size e) before) (omega arith) ∙ take_all (length (flat 0 e)) (flat 0 e) (omega arith) in
    ap (λ nodes. term_of (take 256 nodes)) mine
    ∙ ap term_of (take_all 256 (flat 0 e) (omega (arith, so.nodes)))
    ∙ term_of_flat e
