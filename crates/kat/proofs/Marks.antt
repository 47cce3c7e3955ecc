-- The tests over lists of places, and what they tell: some place is marked and as asked, or has a number and an action.
use Rattle.std.proofs.Common.{◌≡◌, ℕ, Bool, true, ◌&&◌, eqb, List, [], ◌∷◌, sym, refl, ap, ◌∙◌, inl, inr, ⊎_elim}
use Rattle.masks.specs.Bits.{bit}
use Rattle.std.proofs.lemmas.Bool.{false≢true, and_parts, and_from, or_cases, or_left, or_right, eqb-true, eq-eqb}
use Rattle.kat.specs.Places.{Place, is_place_of, some_marked}
use Rattle.kat.specs.Terms.{Term}
use Rattle.kat.proofs.Among.{Among}

-- Some place of the list is marked and its remainder is as asked.
pub marked_place : (code : ℕ) (asked : Term → Bool) (places : List Place) → some_marked code asked places ≡ true
    → (p : Place) × Among p places × (bit p.number code ≡ true) × (asked p.remainder ≡ true)
marked_place code asked [] h = absurd (false≢true h)
marked_place code asked (place ∷ places) h =
    ⊎_elim
    (λ a. let both = and_parts (bit place.number code) (asked place.remainder) a in (place, inl refl, both.0, both.1))
    (λ a. let r = marked_place code asked places a in (r.0, inr r.1, r.2, r.3))
    (or_cases (bit place.number code && asked place.remainder) (some_marked code asked places) h)

-- And a place that is marked and as asked is told.
pub place_marked : (code : ℕ) (asked : Term → Bool) (places : List Place) (p : Place) → Among p places
    → bit p.number code ≡ true → asked p.remainder ≡ true → some_marked code asked places ≡ true
place_marked code asked [] p i b a = absurd i
place_marked code asked (place ∷ places) p (inl e) b a =
    or_left _ _ (and_from _ _ (ap (λ (x : Place). bit x.number code) (sym e) ∙ b) (ap (λ (x : Place). asked x.remainder) (sym e) ∙ a))
place_marked code asked (place ∷ places) p (inr i) b a = or_right _ _ (place_marked code asked places p i b a)

-- A place of the list has the number and the action.
pub place_of : (a q : ℕ) (places : List Place) → is_place_of a q places ≡ true
    → (p : Place) × Among p places × (p.number ≡ q) × (p.action ≡ a)
place_of a q [] h = absurd (false≢true h)
place_of a q (place ∷ places) h =
    ⊎_elim
    (λ x.
    let both = and_parts (eqb place.number q) (eqb place.action a) x in
    (place, inl refl, eqb-true _ _ both.0, eqb-true _ _ both.1))
    (λ x. let r = place_of a q places x in (r.0, inr r.1, r.2, r.3))
    (or_cases (eqb place.number q && eqb place.action a) (is_place_of a q places) h)

-- And the number of a place of the action is told.
pub of_place : (a : ℕ) (places : List Place) (p : Place) → Among p places → p.action ≡ a → is_place_of a p.number places ≡ true
of_place a [] p i e = absurd i
of_place a (place ∷ places) p (inl x) e =
    or_left _ _ (and_from _ _ (eq-eqb _ _ (ap (λ (y : Place). y.number) (sym x))) (eq-eqb _ _ (ap (λ (y : Place). y.action) (sym x) ∙ e)))
of_place a (place ∷ places) p (inr i) e = or_right _ _ (of_place a places p i e)
