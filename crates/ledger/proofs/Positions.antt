-- Which element stands at a position of a list, counted from 0.
use Rattle.std.proofs.Common.{◌≡◌, ℕ, zero, suc, ◌⊎◌, List, [], ◌∷◌, ◌++◌, map, sym, refl, ap, ◌∙◌, inl, inr}

-- The element stands at the position.
abbrev pub At : {A : Type 0} → List A → ℕ → A → Type 0
At [] i x = ⊥
At (y ∷ ys) zero x = y ≡ x
At (y ∷ ys) (suc i) x = At ys i x

-- One element stands at a position.
pub at_one : {A : Type 0} (xs : List A) (i : ℕ) (x y : A) → At xs i x → At xs i y → x ≡ y
at_one [] i x y p q = absurd p
at_one (z ∷ xs) zero x y p q = sym p ∙ q
at_one (z ∷ xs) (suc i) x y p q = at_one xs i x y p q

-- With one more element behind a list, this stands there or the list has the element.
pub at_either : {A : Type 0} (xs : List A) (y : A) (i : ℕ) (x : A) → At (xs ++ (y ∷ [])) i x → At xs i x ⊎ (y ≡ x)
at_either [] y zero x p = inr p
at_either [] y (suc i) x p = absurd p
at_either (z ∷ xs) y zero x p = inl p
at_either (z ∷ xs) y (suc i) x p = at_either xs y i x p

-- What is made of an element stands where it does.
pub at_made : {A B : Type 0} (make : A → B) (xs : List A) (i : ℕ) (x : A) → At xs i x → At (map make xs) i (make x)
at_made make [] i x p = absurd p
at_made make (z ∷ xs) zero x p = ap make p
at_made make (z ∷ xs) (suc i) x p = at_made make xs i x p

-- What stands among things made is made of an element.
pub made_at : {A B : Type 0} (make : A → B) (xs : List A) (i : ℕ) (y : B) → At (map make xs) i y → (x : A) × At xs i x × (make x ≡ y)
made_at make [] i y p = absurd p
made_at make (z ∷ xs) zero y p = (z, refl, p)
made_at make (z ∷ xs) (suc i) y p = made_at make xs i y p
