-- What stands among the places of a list, of two lists one behind the other, and of the places with more to do behind them.
use Rattle.std.proofs.Common.{◌≡◌, Bool, true, false, ◌⊎◌, List, [], ◌∷◌, ◌++◌, map, refl, ap, inl, inr, ⊎_elim}
use Rattle.std.proofs.lemmas.Bool.{false≢true}
use Rattle.kat.specs.Places.{Place}

-- The place is one of the list.
abbrev pub Among : Place → List Place → Type 0
Among x [] = ⊥
Among x (y ∷ ys) = (x ≡ y) ⊎ Among x ys

-- A place of the first list is one of both.
pub among_left : (x : Place) (xs ys : List Place) → Among x xs → Among x (xs ++ ys)
among_left x [] ys h = absurd h
among_left x (y ∷ xs) ys (inl e) = inl e
among_left x (y ∷ xs) ys (inr h) = inr (among_left x xs ys h)

-- A place of the second list is one of both.
pub among_right : (x : Place) (xs ys : List Place) → Among x ys → Among x (xs ++ ys)
among_right x [] ys h = h
among_right x (y ∷ xs) ys h = inr (among_right x xs ys h)

-- A place of both is one of either.
pub among_either : (x : Place) (xs ys : List Place) → Among x (xs ++ ys) → Among x xs ⊎ Among x ys
among_either x [] ys h = inr h
among_either x (y ∷ xs) ys (inl e) = inl (inl e)
among_either x (y ∷ xs) ys (inr h) = ⊎_elim (λ a. inl (inr a)) (λ a. inr a) (among_either x xs ys h)

-- A place, changed, is one of the changed list.
pub among_map : (f : Place → Place) (x : Place) (xs : List Place) → Among x xs → Among (f x) (map f xs)
among_map f x [] h = absurd h
among_map f x (y ∷ xs) (inl e) = inl (ap f e)
among_map f x (y ∷ xs) (inr h) = inr (among_map f x xs h)

-- Each place of the changed list is a changed place.
pub map_among : (f : Place → Place) (z : Place) (xs : List Place) → Among z (map f xs) → (x : Place) × Among x xs × (z ≡ f x)
map_among f z [] h = absurd h
map_among f z (y ∷ xs) (inl e) = (y, inl refl, e)
map_among f z (y ∷ xs) (inr h) = let r = map_among f z xs h in (r.0, inr r.1, r.2)

-- The list, or nothing of it.
abbrev pub keep : Bool → List Place → List Place
keep true xs = xs
keep false xs = []

-- A place of a list that is kept is one of what is kept.
pub among_keep : (b : Bool) (x : Place) (xs : List Place) → b ≡ true → Among x xs → Among x (keep b xs)
among_keep true x xs e h = h
among_keep false x xs e h = absurd (false≢true e)

-- What is kept is of a list that is kept.
pub keep_among : (b : Bool) (x : Place) (xs : List Place) → Among x (keep b xs) → (b ≡ true) × Among x xs
keep_among true x xs h = (refl, h)
keep_among false x xs h = absurd h
