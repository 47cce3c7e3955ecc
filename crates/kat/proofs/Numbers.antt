-- Places that are numbered one after the other: a place is told by its number.
use Rattle.std.proofs.Common.{◌≡◌, ℕ, suc, ◌+◌, ◌<◌, ◌≤◌, List, [], ◌∷◌, ◌++◌, map, length, sym, refl, ap, ◌∙◌, subst, ap₂, inl, inr, arith}
use mathlib.Core.List.{head-eq_of_cons-eq, tail-eq_of_cons-eq}
use Rattle.kat.specs.Places.{Place, and_then, count_from}
use Rattle.kat.specs.Terms.{Term}
use Rattle.kat.proofs.Among.{Among}

-- The places are numbered one after the other, from a number on.
abbrev pub CountedFrom : ℕ → List Place → Type 0
CountedFrom first [] = Unit {0}
CountedFrom first (place ∷ places) = (place.number ≡ first) × CountedFrom (suc first) places

-- That is what the list of their numbers says.
pub counted_from : (first : ℕ) (places : List Place)
    → map (λ place. place.number) places ≡ count_from first (length places) → CountedFrom first places
counted_from first [] e = tt
counted_from first (place ∷ places) e = (head-eq_of_cons-eq e, counted_from (suc first) places (tail-eq_of_cons-eq e))

-- And back.
pub from_counted : (first : ℕ) (places : List Place)
    → CountedFrom first places → map (λ place. place.number) places ≡ count_from first (length places)
from_counted first [] h = refl
from_counted first (place ∷ places) h = ap₂ ◌∷◌ h.0 (from_counted (suc first) places h.1)

-- Two lists of places, the second numbered on from the first, are one such list.
pub counted_append : (first : ℕ) (xs ys : List Place)
    → CountedFrom first xs → CountedFrom (first + length xs) ys → CountedFrom first (xs ++ ys)
counted_append first [] ys a b = subst (λ n. CountedFrom n ys) (omega arith) b
counted_append first (x ∷ xs) ys a b = (a.0, counted_append (suc first) xs ys a.1 (subst (λ n. CountedFrom n ys) (omega arith) b))

-- With more to do behind it a place keeps its number.
pub counted_then : (f : Term) (first : ℕ) (places : List Place) → CountedFrom first places → CountedFrom first (map (and_then f) places)
counted_then f first [] a = tt
counted_then f first (place ∷ places) a = (a.0, counted_then f (suc first) places a.1)

-- The numbers reach from the first on as far as there are places.
pub counted_range : (first : ℕ) (places : List Place) → CountedFrom first places
    → (p : Place) → Among p places → (first ≤ p.number) × (p.number < first + length places)
counted_range first [] c p i = absurd i
counted_range first (x ∷ places) c p (inl e) =
    let same : p.number ≡ first = ap (λ (y : Place). y.number) e ∙ c.0 in
    (omega arith, omega arith)
counted_range first (x ∷ places) c p (inr i) =
    let r = counted_range (suc first) places c.1 p i in
    (omega (arith, r.0), omega (arith, r.1))

-- Two places of one number are the same place.
pub counted_apart : (first : ℕ) (places : List Place) → CountedFrom first places
    → (p q : Place) → Among p places → Among q places → p.number ≡ q.number → p ≡ q
counted_apart first [] c p q i j e = absurd i
counted_apart first (x ∷ places) c p q (inl a) (inl b) e = a ∙ sym b
counted_apart first (x ∷ places) c p q (inl a) (inr j) e =
    let here : p.number ≡ first = ap (λ (y : Place). y.number) a ∙ c.0 in
    let later = counted_range (suc first) places c.1 q j in
    absurd (omega (arith, here, e, later.0))
counted_apart first (x ∷ places) c p q (inr i) (inl b) e =
    let here : q.number ≡ first = ap (λ (y : Place). y.number) b ∙ c.0 in
    let later = counted_range (suc first) places c.1 p i in
    absurd (omega (arith, here, e, later.0))
counted_apart first (x ∷ places) c p q (inr i) (inr j) e = counted_apart (suc first) places c.1 p q i j e
