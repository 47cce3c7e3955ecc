-- Terms read back from any nodes: what stands for a part only stands in front of what it is a part of.
use Rattle.std.specs.Prelude.{◌≡◌, ℕ, suc, ◌-◌, cond, List, ◌++◌, nat_lt}
use Rattle.kat.specs.Terms.{Term, size, stop}
use Rattle.rules.specs.Nodes.{decode_by, flat}
use Rattle.rules.specs.declared.node.Node.{Node}

-- A part stands in front of what it is a part of: what does not is read as `stop`.
abbrev pub in_front : ℕ → (ℕ → Term) → ℕ → Term
in_front root part place = cond (nat_lt place root) (part place) stop

-- The term whose root stands at a place, read back from the nodes: as much fuel as there are nodes up to the root is enough.
abbrev pub decode_with : ℕ → List Node → ℕ → Term
decode_with fuel nodes root = decode_by in_front fuel nodes root

abbrev pub decode : List Node → ℕ → Term
decode nodes root = decode_with (suc root) nodes root

-- A term that was laid out from the first node on is read back from its last node, whatever stands behind it.
abbrev pub LaidOutDecodes : Type 0
LaidOutDecodes = (e : Term) (rest : List Node) → decode (flat 0 e ++ rest) (size e - 1) ≡ e
