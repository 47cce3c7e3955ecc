-- The masks of a term: of the situations in which it passes, and of places.
use Rattle.std.specs.Prelude.{◌≡◌, ℕ, ◌-◌, ◌<◌, Bool, List, length, slice_index}
use Rattle.masks.specs.Bits.{bits_below}
use Rattle.kat.specs.Places.{begins, is_place_of, passes, places_in}
use Rattle.kat.specs.Terms.{Term}
use Rattle.tables.specs.Decoded.{decode}
use Rattle.rules.specs.declared.node.Node.{Node}
use Rattle.tables.specs.Remainders.{ends_at, goes_on, places_of, some_at}

-- The situations, of n, in which a term passes.
abbrev pub pass_mask : ℕ → (ℕ → ℕ → Bool) → Term → ℕ
pass_mask n holds e = bits_below (passes holds e) n

-- The places that a term begins with in a situation.
abbrev pub first_mask : (ℕ → ℕ → Bool) → ℕ → Term → ℕ
first_mask holds s e = bits_below (begins holds e s) 64

-- The places behind which a term may end in a situation.
abbrev pub last_mask : (ℕ → ℕ → Bool) → ℕ → Term → ℕ
last_mask holds s e = bits_below (ends_at holds e s) 64

-- The places to which a term may go on from a place in a situation.
abbrev pub next_mask : (ℕ → ℕ → Bool) → ℕ → ℕ → Term → ℕ
next_mask holds s p e = bits_below (goes_on holds e s p) 64

-- The places of an action in a term.
abbrev pub action_mask : ℕ → Term → ℕ
action_mask a e = bits_below (λ q. is_place_of a q (places_in e)) 64

-- Masks tell a mask of the term of each node.
abbrev pub Tells : (Term → ℕ) → List Node → List ℕ → Type 0
Tells mask nodes masks = (k : ℕ) → slice_index masks k ≡ mask (decode nodes k)

-- Whatever the tests are, where `pass` tells in which of some situations each node passes, and s is one of them, this is so.
abbrev pub WherePasses : List Node → List ℕ → ℕ → ((ℕ → ℕ → Bool) → Type 0) → Type 0
WherePasses nodes pass s So = (n : ℕ) (holds : ℕ → ℕ → Bool) → s < n → Tells (pass_mask n holds) nodes pass → So holds

-- Whatever the tests are, where `first` and `last` tell what each node begins with in a situation and may end behind, this is so.
abbrev pub WhereKnown : List Node → List ℕ → List ℕ → ((ℕ → ℕ → Bool) → ℕ → Type 0) → Type 0
WhereKnown nodes first last So = (holds : ℕ → ℕ → Bool) (s : ℕ) → Tells (first_mask holds s) nodes first → Tells (last_mask holds s) nodes last → So holds s

-- The term of a rule's nodes: that of the last; where there are none it is `stop`.
abbrev pub term_of : List Node → Term
term_of nodes = decode nodes (length nodes - 1)

-- The places, the start among them, behind which a term may end in a situation.
abbrev pub end_mask : (ℕ → ℕ → Bool) → ℕ → Term → ℕ
end_mask holds s e = bits_below (λ p. some_at p (λ r. passes holds r s) (places_of e)) 64

-- The places to which a term may go on in a situation from a place, which may be the start.
abbrev pub follow_mask : (ℕ → ℕ → Bool) → ℕ → ℕ → Term → ℕ
follow_mask holds s p e = bits_below (λ q. some_at p (λ r. begins holds r s q) (places_of e)) 64

-- A row of masks, one for each place: those that may come next in a situation.
abbrev pub FollowsFrom : (ℕ → ℕ → Bool) → ℕ → Term → List ℕ → Type 0
FollowsFrom holds s e row = (p : ℕ) → p < 64 → slice_index row p ≡ follow_mask holds s p e
