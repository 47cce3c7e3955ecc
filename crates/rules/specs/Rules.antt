-- The text of a rule, read whole, and what becomes of the nodes that it is laid out in.
use Rattle.std.specs.Prelude.{ℕ, ◌+◌, cond, List, ◌++◌, length, drop, Ok, Err, Option, Result, nat_lt}
use Rattle.signs.specs.declared.fault.SignFault.TheVariants.{TextTooLong}
use Rattle.sheet.specs.declared.named.Named.{Named}
use Rattle.grammar.specs.Reading.{read_ahead}
use Rattle.kat.specs.Terms.{Term, act, chain, choice, size, skip, star, stop, test}
use Rattle.kat.specs.Terms as term
use Rattle.grammar.specs.declared.fault.RuleFault.{RuleFault}
use Rattle.grammar.specs.declared.fault.RuleFault.TheVariants.{Sign, NoRoom}
use Rattle.rules.specs.Aheads.{ahead_in}
use Rattle.rules.specs.Nodes.{blank, flat}
use Rattle.rules.specs.declared.node.Node.{Node}
use Rattle.rules.specs.declared.rule.Rule.{Rule}

-- The term that a text is, or its refusal: a text of more than 4,096 bytes first, and then sign by sign.
abbrev pub read_text : (List ℕ → Option Named) → List ℕ → Result Term RuleFault
read_text means text = cond (nat_lt 4096 (length text)) (Err (Sign TextTooLong)) (read_ahead means (ahead_in text))

-- How many actions a term has.
abbrev pub actions_in : Term → ℕ
actions_in (test t) = 0
actions_in (act a p) = 1
actions_in skip = 0
actions_in stop = 0
actions_in (term.not e) = actions_in e
actions_in (choice e f) = actions_in e + actions_in f
actions_in (chain e f) = actions_in e + actions_in f
actions_in (star e) = actions_in e

-- The answer where there is room for so many nodes.
abbrev pub rule_of : ℕ → Result Term RuleFault → Result Rule RuleFault
rule_of room (Ok e) = cond (nat_lt room (size e)) (Err NoRoom) (Ok (record { nodes = size e; actions = actions_in e }))
rule_of room (Err fault) = Err fault

-- The nodes afterwards: the term, and behind it the nodes as they were; where the text is refused, all are empty.
abbrev pub nodes_after : List Node → Result Term RuleFault → List Node
nodes_after nodes (Ok e) = cond (nat_lt (length nodes) (size e)) (blank (length nodes)) (flat 0 e ++ drop (size e) nodes)
nodes_after nodes (Err fault) = blank (length nodes)
