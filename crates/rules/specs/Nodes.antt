-- How a term is laid out in nodes, and read back from them.
use Rattle.std.specs.Prelude.{◌≡◌, ℕ, zero, suc, ◌+◌, ◌-◌, List, [], ◌∷◌, ◌++◌, replicate, slice_index_or}
use Rattle.kat.specs.Terms.{Term, act, chain, choice, size, skip, star, stop, test}
use Rattle.kat.specs.Terms as term
use Rattle.rules.specs.declared.node.Node.{Node}
use Rattle.rules.specs.declared.node.Node.TheVariants.{Empty, Test, Action, Skip, Stop, Not, Choice, Chain, Star}

-- The place of a term's root, where the term is laid out from a place on: that of its last node.
abbrev pub root_at : ℕ → Term → ℕ
root_at base e = base + size e - 1

-- A term laid out from a place on: the parts in their order, and behind them the root, which names the roots of the parts.
abbrev pub flat : ℕ → Term → List Node
flat base (test t) = Test t ∷ []
flat base (act a p) = Action a p ∷ []
flat base skip = Skip ∷ []
flat base stop = Stop ∷ []
flat base (term.not e) = flat base e ++ (Not (root_at base e) ∷ [])
flat base (choice e f) = flat base e ++ (flat (base + size e) f ++ (Choice (root_at base e) (root_at (base + size e) f) ∷ []))
flat base (chain e f) = flat base e ++ (flat (base + size e) f ++ (Chain (root_at base e) (root_at (base + size e) f) ∷ []))
flat base (star e) = flat base e ++ (Star (root_at base e) ∷ [])

-- So many nodes with nothing in them.
abbrev pub blank : ℕ → List Node
blank n = replicate n Empty

-- What a node stands for, where `part` tells what the nodes in front of it stand for.
abbrev pub term_at : (ℕ → Term) → Node → Term
term_at part Empty = stop
term_at part (Test t) = test t
term_at part (Action a p) = act a p
term_at part Skip = skip
term_at part Stop = stop
term_at part (Not a) = term.not (part a)
term_at part (Choice a b) = choice (part a) (part b)
term_at part (Chain a b) = chain (part a) (part b)
term_at part (Star a) = star (part a)

-- The term whose root stands at a place, read back from the nodes, where `seen` says what its parts are from there: parts
-- stand in front of what they are parts of, so that as much fuel as there are nodes up to the root is enough.
abbrev pub decode_by : (ℕ → (ℕ → Term) → ℕ → Term) → ℕ → List Node → ℕ → Term
decode_by seen zero nodes root = stop
decode_by seen (suc fuel) nodes root = term_at (seen root (decode_by seen fuel nodes)) (slice_index_or nodes root Empty)

-- The same where each part is what stands at its place.
abbrev pub decode_with : ℕ → List Node → ℕ → Term
decode_with fuel nodes root = decode_by (λ from part. part) fuel nodes root

abbrev pub decode : List Node → ℕ → Term
decode nodes root = decode_with (suc root) nodes root

-- A term that was laid out from the first node on is read back from its last node, whatever stands behind it.
abbrev pub LaidOutDecodes : Type 0
LaidOutDecodes = (e : Term) (rest : List Node) → decode (flat 0 e ++ rest) (size e - 1) ≡ e
