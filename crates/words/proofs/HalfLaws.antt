-- Where a blank, a colon and a blank stand, and where they stand last.
use Rattle.std.proofs.Common.{◌≡◌, ℕ, suc, ◌-◌, ◌<◌, Bool, true, false, eqb, ◌&&◌, List, [], ◌∷◌, length, take, drop, Some, refl, sym, ap, ◌∙◌, arith, drop-drop}
use Rattle.std.specs.Cmp.Lexicographic.{pointwise}
use Rattle.std.proofs.Math.Bool.{and-true}
use Rattle.std.proofs.lemmas.List.{get_or-drop}
use native.Mathlib.Numerals.{unary_clauses}
use Rattle.std.proofs.lemmas.Bool.{cond-true, cond-false}
use Rattle.std.specs.Option.{option_map}
use Rattle.words.specs.Halves.{halves_of, last_below, parted_at, parts_at}

-- Bytes begin with them where they stand at the first place,
abbrev pub begins_with : List ℕ → Bool
begins_with xs = pointwise eqb (take 3 xs) (32 ∷ 58 ∷ 32 ∷ [])

begins : (xs : List ℕ) → begins_with xs ≡ parts_at xs 0
begins [] = refl
begins (x ∷ []) = refl
begins (x ∷ y ∷ []) = refl
begins (x ∷ y ∷ z ∷ zs) = ap (λ b. eqb x 32 && (eqb y 58 && b)) (and-true (eqb z 32))

-- and the bytes from a place on begin with them where they stand there.
pub begins_at : (bytes : List ℕ) (i : ℕ) → begins_with (drop i bytes) ≡ parts_at bytes i
begins_at bytes i = begins (drop i bytes) ∙ simp (get_or-drop, unary_clauses) refl

-- Below the place behind i they stand last at i, if they do,
last_at : (bytes : List ℕ) (i : ℕ) → parts_at bytes i ≡ true → last_below bytes (suc i) ≡ Some i
last_at bytes i is = cond-true (parts_at bytes i) (Some i) (last_below bytes i) is

pub last_here : (bytes : List ℕ) (n : ℕ) → 0 < n → parts_at bytes (n - 1) ≡ true → last_below bytes n ≡ Some (n - 1)
last_here bytes n h is = ap (last_below bytes) {x = n} {y = suc (n - 1)} (omega arith) ∙ last_at bytes (n - 1) is

-- and else further in front.
last_before : (bytes : List ℕ) (i : ℕ) → parts_at bytes i ≡ false → last_below bytes (suc i) ≡ last_below bytes i
last_before bytes i is = cond-false (parts_at bytes i) (Some i) (last_below bytes i) is

pub last_in_front : (bytes : List ℕ) (n : ℕ) → 0 < n → parts_at bytes (n - 1) ≡ false → last_below bytes n ≡ last_below bytes (n - 1)
last_in_front bytes n h is = ap (last_below bytes) {x = n} {y = suc (n - 1)} (omega arith) ∙ last_before bytes (n - 1) is

-- What stands in front of the last place, and what stands behind its three bytes, are the halves.
pub halved : (bytes : List ℕ) (i : ℕ) {front rest behind : List ℕ} → last_below bytes (length bytes) ≡ Some i → front ≡ take i bytes → rest ≡ drop i bytes
    → behind ≡ drop 3 rest → Some (record { front = front; behind = behind }) ≡ halves_of bytes
halved bytes i last before there cut =
    let after = cut ∙ ap (drop 3) there ∙ drop-drop 3 i bytes in
    let parts : record { front = _; behind = _ } ≡ parted_at bytes i = λ k. record { front = before k; behind = after k } in
    ap Some parts ∙ sym (ap (option_map (parted_at bytes)) last)
