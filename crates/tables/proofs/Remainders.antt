-- The remainders behind the places of a number, for each form of term.
use Rattle.std.proofs.Common.{◌≡◌, ℕ, Bool, true, false, ◌&&◌, ◌||◌, eqb, List, [], ◌∷◌, ◌++◌, map, refl, ap, ◌∙◌}
use Rattle.kat.specs.Places.{Place, and_then, begins, is_place_of, passes, places_in}
use Rattle.kat.specs.Terms.{Term, act, chain, choice, star}
use Rattle.tables.specs.Remainders.{ends_at, goes_on, some_at}
use Rattle.tables.proofs.Bools.{and_false, and_swap, and_true, or_assoc, or_false}

-- Places of two lists are those of the one and of the other.
some_append : (p : ℕ) (asked : Term → Bool) (xs ys : List Place) → some_at p asked (xs ++ ys) ≡ (some_at p asked xs || some_at p asked ys)
some_append p asked [] ys = refl
some_append p asked (x ∷ xs) ys = ap (λ b. (eqb x.number p && asked x.remainder) || b) (some_append p asked xs ys) ∙ or_assoc (eqb x.number p && asked x.remainder) (some_at p asked xs) (some_at p asked ys)

-- With a term behind the remainders, it is asked of the remainder and then that term.
some_then : (p : ℕ) (asked : Term → Bool) (f : Term) (xs : List Place) → some_at p asked (map (and_then f) xs) ≡ some_at p (λ r. asked (chain r f)) xs
some_then p asked f [] = refl
some_then p asked f (x ∷ xs) = ap (λ b. (eqb x.number p && asked (chain x.remainder f)) || b) (some_then p asked f xs)

and_shared : (n x b y : Bool) → ((n && (x && b)) || (y && b)) ≡ (((n && x) || y) && b)
and_shared true true true y = refl
and_shared true true false true = refl
and_shared true true false false = refl
and_shared true false b y = refl
and_shared false x b y = refl

-- A condition that is the same of all remainders.
some_and : (p : ℕ) (asked : Term → Bool) (b : Bool) (xs : List Place) → some_at p (λ r. asked r && b) xs ≡ (some_at p asked xs && b)
some_and p asked b [] = refl
some_and p asked b (x ∷ xs) =
    ap (λ c. (eqb x.number p && (asked x.remainder && b)) || c) (some_and p asked b xs) ∙ and_shared (eqb x.number p) (asked x.remainder) b (some_at p asked xs)

or_shared : (n x y u v : Bool) → ((n && (x || y)) || (u || v)) ≡ (((n && x) || u) || ((n && y) || v))
or_shared true true y u v = refl
or_shared true false true true v = refl
or_shared true false true false v = refl
or_shared true false false u v = refl
or_shared false x y u v = refl

-- Two questions of which one is to be answered yes.
some_or : (p : ℕ) (asked other : Term → Bool) (xs : List Place) → some_at p (λ r. asked r || other r) xs ≡ (some_at p asked xs || some_at p other xs)
some_or p asked other [] = refl
some_or p asked other (x ∷ xs) =
    ap (λ c. (eqb x.number p && (asked x.remainder || other x.remainder)) || c) (some_or p asked other xs)
    ∙ or_shared (eqb x.number p) (asked x.remainder) (other x.remainder) (some_at p asked xs) (some_at p other xs)

module _ (holds : ℕ → ℕ → Bool) (s p : ℕ) where
  -- Where a term may end.
  pub ends_act : (a q : ℕ) → ends_at holds (act a q) s p ≡ eqb q p
  ends_act a q = or_false (eqb q p && true) ∙ and_true (eqb q p)

  pub ends_choice : (e f : Term) → ends_at holds (choice e f) s p ≡ (ends_at holds e s p || ends_at holds f s p)
  ends_choice e f = some_append p (λ r. passes holds r s) (places_in e) (places_in f)

  ends_behind : (e f : Term) → some_at p (λ r. passes holds r s) (map (and_then f) (places_in e)) ≡ (ends_at holds e s p && passes holds f s)
  ends_behind e f = some_then p (λ r. passes holds r s) f (places_in e) ∙ some_and p (λ r. passes holds r s) (passes holds f s) (places_in e)

  pub ends_chain : (e f : Term) → ends_at holds (chain e f) s p ≡ ((ends_at holds e s p && passes holds f s) || ends_at holds f s p)
  ends_chain e f = some_append p (λ r. passes holds r s) (map (and_then f) (places_in e)) (places_in f) ∙ ap (λ b. b || ends_at holds f s p) (ends_behind e f)

  pub ends_star : (e : Term) → ends_at holds (star e) s p ≡ ends_at holds e s p
  ends_star e = ends_behind e (star e) ∙ and_true (ends_at holds e s p)

  -- Where a term may go on to.
  pub goes_act : (a n q : ℕ) → goes_on holds (act a n) s p q ≡ false
  goes_act a n q = or_false (eqb n p && false) ∙ and_false (eqb n p)

  pub goes_choice : (e f : Term) (q : ℕ) → goes_on holds (choice e f) s p q ≡ (goes_on holds e s p q || goes_on holds f s p q)
  goes_choice e f q = some_append p (λ r. begins holds r s q) (places_in e) (places_in f)

  goes_behind : (e f : Term) (q : ℕ) → some_at p (λ r. begins holds r s q) (map (and_then f) (places_in e)) ≡ (goes_on holds e s p q || (ends_at holds e s p && begins holds f s q))
  goes_behind e f q =
      some_then p (λ r. begins holds r s q) f (places_in e)
      ∙ some_or p (λ r. begins holds r s q) (λ r. passes holds r s && begins holds f s q) (places_in e)
      ∙ ap (λ b. goes_on holds e s p q || b) (some_and p (λ r. passes holds r s) (begins holds f s q) (places_in e))

  pub goes_chain : (e f : Term) (q : ℕ) → goes_on holds (chain e f) s p q ≡ ((goes_on holds e s p q || (ends_at holds e s p && begins holds f s q)) || goes_on holds f s p q)
  goes_chain e f q = some_append p (λ r. begins holds r s q) (map (and_then f) (places_in e)) (places_in f) ∙ ap (λ b. b || goes_on holds f s p q) (goes_behind e f q)

  pub goes_star : (e : Term) (q : ℕ) → goes_on holds (star e) s p q ≡ (goes_on holds e s p q || (ends_at holds e s p && begins holds e s q))
  goes_star e q = goes_behind e (star e) q

-- The places of an action.
own_append : (a q : ℕ) (xs ys : List Place) → is_place_of a q (xs ++ ys) ≡ (is_place_of a q xs || is_place_of a q ys)
own_append a q [] ys = refl
own_append a q (x ∷ xs) ys = ap (λ b. (eqb x.number q && eqb x.action a) || b) (own_append a q xs ys) ∙ or_assoc (eqb x.number q && eqb x.action a) (is_place_of a q xs) (is_place_of a q ys)

own_then : (a q : ℕ) (f : Term) (xs : List Place) → is_place_of a q (map (and_then f) xs) ≡ is_place_of a q xs
own_then a q f [] = refl
own_then a q f (x ∷ xs) = ap (λ b. (eqb x.number q && eqb x.action a) || b) (own_then a q f xs)

module _ (a q : ℕ) where
  pub own_act : (b p : ℕ) → is_place_of a q (places_in (act b p)) ≡ (eqb b a && eqb p q)
  own_act b p = or_false (eqb p q && eqb b a) ∙ and_swap (eqb p q) (eqb b a)

  pub own_choice : (e f : Term) → is_place_of a q (places_in (choice e f)) ≡ (is_place_of a q (places_in e) || is_place_of a q (places_in f))
  own_choice e f = own_append a q (places_in e) (places_in f)

  pub own_chain : (e f : Term) → is_place_of a q (places_in (chain e f)) ≡ (is_place_of a q (places_in e) || is_place_of a q (places_in f))
  own_chain e f = own_append a q (map (and_then f) (places_in e)) (places_in f) ∙ ap (λ b. b || is_place_of a q (places_in f)) (own_then a q f (places_in e))

  pub own_star : (e : Term) → is_place_of a q (places_in (star e)) ≡ is_place_of a q (places_in e)
  own_star e = own_then a q (star e) (places_in e)
