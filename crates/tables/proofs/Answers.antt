-- What the flow of the tables answers, bit by bit.
use Rattle.std.proofs.Common.{◌≡◌, ℕ, zero, suc, ◌^◌, ◌<◌, Bool, true, false, ◌&&◌, ◌||◌, eqb, not, sym, refl, ap, ◌∙◌, ap₂, ⊎_elim, arith}
use lib.Bits.{and_le_l, and_le_r, bit_and}
use Rattle.std.proofs.lemmas.Bool.{cases_Bool, cases_eq, ne_eqb, or_parts}
use Rattle.masks.specs.Bits.{bit}
use Rattle.masks.proofs.Bits.{bit_of_bits, bits_fit, bits_of_fitting, no_bits}
use Rattle.masks.proofs.Operations.{bit-and, bit_zero, bits_same}
use Rattle.tables.specs.Tables.{any_below, next_by, reaches, shares}
use Rattle.tables.proofs.Marked.{any_same}

-- Where none is as asked, each is not.
any_false : (f : ℕ → Bool) (n : ℕ) → any_below f n ≡ false → (p : ℕ) → p < n → f p ≡ false
unfolding any_below
any_false f zero never p h = absurd (omega arith)
any_false f (suc n) never p h =
    let parts = or_parts (any_below f n) (f n) never in
    ⊎_elim (λ (e : p ≡ n). ap f e ∙ parts.1) (λ (ne : p ≡ n → ⊥). any_false f n parts.0 p (omega arith)) (cases_eq p n)

-- None is as asked where each is not.
pub any_no : (f : ℕ → Bool) (n : ℕ) → ((p : ℕ) → p < n → f p ≡ false) → any_below f n ≡ false
unfolding any_below
any_no f zero never = refl
any_no f (suc n) never = ap₂ ◌||◌ (any_no f n (λ p h. never p (omega arith))) (never n (omega arith))

-- A code shares a place with a mask exactly when what both share is not 0.
shares_bits : (code mask : ℕ) → shares code mask ≡ any_below (λ p. bit p (bit_and code mask)) 64
shares_bits code mask = any_same (λ p. bit p code && bit p mask) (λ p. bit p (bit_and code mask)) 64 (λ p h. sym (bit-and p code mask))

shares_none : (code mask : ℕ) → bit_and code mask ≡ 0 → shares code mask ≡ false
shares_none code mask none = shares_bits code mask ∙ any_no (λ p. bit p (bit_and code mask)) 64 (λ p h. ap (bit p) none ∙ bit_zero p)

shares_some : (code mask : ℕ) → code < 2 ^ 64 → (bit_and code mask ≡ 0 → ⊥) → shares code mask ≡ true
shares_some code mask fits some =
    ⊎_elim
    (λ (some-shared : shares code mask ≡ true). some-shared)
    (λ (none-shared : shares code mask ≡ false).
    let x = bit_and code mask in
    let below : x < 2 ^ 64 = let le = and_le_l code mask in omega arith in
    let zero_bits = any_false (λ p. bit p x) 64 (sym (shares_bits code mask) ∙ none-shared) in
    absurd (some (sym (bits_of_fitting x 64 below) ∙ no_bits (λ p. bit p x) 64 zero_bits)))
    (cases_Bool (shares code mask))

-- So the code may ask whether it is 0.
pub shares_asked : (code mask : ℕ) → code < 2 ^ 64 → not (eqb (bit_and code mask) 0) ≡ shares code mask
shares_asked code mask fits =
    ⊎_elim
    (λ (none : bit_and code mask ≡ 0). ap (λ x. not (eqb x 0)) none ∙ sym (shares_none code mask none))
    (λ (some : bit_and code mask ≡ 0 → ⊥). ap not (ne_eqb (bit_and code mask) 0 some) ∙ sym (shares_some code mask fits some))
    (cases_eq (bit_and code mask) 0)

-- The next code, from what the row reaches.
pub next_masked : (row : ℕ → ℕ) (own code reached : ℕ) → reached < 2 ^ 64 → ((q : ℕ) → bit q reached ≡ reaches row code q) → bit_and own reached ≡ next_by row own code
next_masked row own code reached fits bits =
    let below : bit_and own reached < 2 ^ 64 = let le = and_le_r own reached in omega arith in
    bits_same 64 (bit_and own reached) (next_by row own code) below (bits_fit (λ q. bit q own && reaches row code q) 64)
    (λ q h. bit-and q own reached ∙ ap (λ b. bit q own && b) (bits q) ∙ sym (bit_of_bits (λ q. bit q own && reaches row code q) 64 q h))
