-- What a node adds to the masks of its parts.
use Rattle.std.specs.Prelude.{ℕ, ◌-◌, ◌^◌, cond, ◌==◌, bit_and, bit_or, nat_lt}
use Rattle.masks.specs.Bits.{bit}
use Rattle.rules.specs.declared.node.Node.{Node}
use Rattle.rules.specs.declared.node.Node.TheVariants.{Empty, Test, Action, Skip, Stop, Not, Choice, Chain, Star}

-- The mask of one place; those from 64 on have none.
abbrev pub place_bit : ℕ → ℕ
place_bit p = cond (nat_lt p 64) (2 ^ p) 0

-- The situations in which a node passes, by those of its parts; `all` are those there are, and `test` has those in which a test holds.
abbrev pub pass_node : ℕ → (ℕ → ℕ) → (ℕ → ℕ) → Node → ℕ
pass_node all test pass Empty = 0
pass_node all test pass (Test t) = test t
pass_node all test pass (Action a p) = 0
pass_node all test pass Skip = all
pass_node all test pass Stop = 0
pass_node all test pass (Not a) = bit_and all (2 ^ 64 - 1 - pass a)
pass_node all test pass (Choice a b) = bit_or (pass a) (pass b)
pass_node all test pass (Chain a b) = bit_and (pass a) (pass b)
pass_node all test pass (Star a) = all

-- The places that a node begins with in situation s: the second part of a chain begins it where the first passes.
abbrev pub first_node : ℕ → (ℕ → ℕ) → (ℕ → ℕ) → Node → ℕ
first_node s pass first Empty = 0
first_node s pass first (Test t) = 0
first_node s pass first (Action a p) = place_bit p
first_node s pass first Skip = 0
first_node s pass first Stop = 0
first_node s pass first (Not a) = 0
first_node s pass first (Choice a b) = bit_or (first a) (first b)
first_node s pass first (Chain a b) = bit_or (first a) (cond (bit s (pass a)) (first b) 0)
first_node s pass first (Star a) = first a

-- The places behind which a node may end in situation s: the first part of a chain ends it where the second passes.
abbrev pub last_node : ℕ → (ℕ → ℕ) → (ℕ → ℕ) → Node → ℕ
last_node s pass last Empty = 0
last_node s pass last (Test t) = 0
last_node s pass last (Action a p) = place_bit p
last_node s pass last Skip = 0
last_node s pass last Stop = 0
last_node s pass last (Not a) = 0
last_node s pass last (Choice a b) = bit_or (last a) (last b)
last_node s pass last (Chain a b) = bit_or (cond (bit s (pass b)) (last a) 0) (last b)
last_node s pass last (Star a) = last a

-- The places to which a node may go on from place p: within its parts, behind the first part of a chain to where the second begins, and behind
-- what is repeated to where it begins.
abbrev pub next_node : ℕ → (ℕ → ℕ) → (ℕ → ℕ) → (ℕ → ℕ) → Node → ℕ
next_node p first last next Empty = 0
next_node p first last next (Test t) = 0
next_node p first last next (Action a q) = 0
next_node p first last next Skip = 0
next_node p first last next Stop = 0
next_node p first last next (Not a) = 0
next_node p first last next (Choice a b) = bit_or (next a) (next b)
next_node p first last next (Chain a b) = bit_or (bit_or (next a) (cond (bit p (last a)) (first b) 0)) (next b)
next_node p first last next (Star a) = bit_or (next a) (cond (bit p (last a)) (first a) 0)

-- The places of an action in a node.
abbrev pub action_node : ℕ → (ℕ → ℕ) → Node → ℕ
action_node a own Empty = 0
action_node a own (Test t) = 0
action_node a own (Action b p) = cond (b == a) (place_bit p) 0
action_node a own Skip = 0
action_node a own Stop = 0
action_node a own (Not b) = 0
action_node a own (Choice b c) = bit_or (own b) (own c)
action_node a own (Chain b c) = bit_or (own b) (own c)
action_node a own (Star b) = own b
