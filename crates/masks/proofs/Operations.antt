-- The bits of what the operations on numbers give, and that numbers with the same bits are the same.
use Rattle.std.proofs.Common.{◌≡◌, ℕ, zero, suc, ◌/◌, ◌%◌, ◌^◌, ◌<◌, ◌≤◌, min, max, false, ◌&&◌, ◌||◌, eqb, sym, refl, ap, ◌∙◌, ap₂, pow-suc, arith, pow_mono}
use native.Mathlib.Nat.{div-eq_of_lt}
use lib.Bits.{bit_and, bit_or, or_step, and_step, and_mask}
use Rattle.std.proofs.lemmas.Nat.{shr-shr}
use Rattle.std.proofs.lemmas.Bool.{ne_eqb}
use Rattle.masks.specs.Bits.{bit}
use Rattle.masks.proofs.Bits.{bits_of_fitting, same_bits}

-- A bit above the lowest is a bit of the half.
pub bit_half : (s m : ℕ) → bit (suc s) m ≡ bit s (m / 2)
bit_half s m = sym (ap (λ x. eqb (x % 2) 1) (shr-shr m 1 s ∙ ap (λ x. m / 2 ^ x) (omega arith)))

-- The lowest bit says whether the number is odd.
pub bit_low : (m : ℕ) → bit 0 m ≡ eqb (m % 2) 1
bit_low m = ap (λ x. eqb (x % 2) 1) (omega arith)

-- A number has no bit where it does not reach.
pub bit_past : (x n s : ℕ) → x < 2 ^ n → n ≤ s → bit s x ≡ false
bit_past x n s h k =
    let reach : 2 ^ n ≤ 2 ^ s = pow_mono k in
    let below : x < 2 ^ s = omega arith in
    ap (λ q. eqb (q % 2) 1) (div-eq_of_lt below)

-- Zero has no bit.
pub bit_zero : (q : ℕ) → bit q 0 ≡ false
bit_zero q = bit_past 0 0 q (omega arith) (omega arith)

-- The code asks for a bit by `(mask >> s) & 1 == 1`.
pub bit_code : (s m : ℕ) → eqb (bit_and (m / 2 ^ s) 1) 1 ≡ bit s m
bit_code s m = ap (λ x. eqb x 1) (and_mask (m / 2 ^ s) 1)

odd_or : (x y : ℕ) → x < 2 → y < 2 → eqb (max x y) 1 ≡ (eqb x 1 || eqb y 1)
odd_or zero zero a b = refl
odd_or zero (suc zero) a b = refl
odd_or zero (suc (suc y)) a b = absurd (omega arith)
odd_or (suc zero) zero a b = refl
odd_or (suc zero) (suc zero) a b = refl
odd_or (suc zero) (suc (suc y)) a b = absurd (omega arith)
odd_or (suc (suc x)) y a b = absurd (omega arith)

odd_and : (x y : ℕ) → x < 2 → y < 2 → eqb (min x y) 1 ≡ (eqb x 1 && eqb y 1)
odd_and zero zero a b = refl
odd_and zero (suc zero) a b = refl
odd_and zero (suc (suc y)) a b = absurd (omega arith)
odd_and (suc zero) zero a b = refl
odd_and (suc zero) (suc zero) a b = refl
odd_and (suc zero) (suc (suc y)) a b = absurd (omega arith)
odd_and (suc (suc x)) y a b = absurd (omega arith)

-- A bit of either is a bit of their union.
pub bit-or : (q a b : ℕ) → bit q (bit_or a b) ≡ (bit q a || bit q b)
bit-or zero a b =
    let e : bit_or a b % 2 ≡ max (a % 2) (b % 2) = omega (arith, or_step a b) in
    bit_low (bit_or a b) ∙ ap (λ x. eqb x 1) e ∙ odd_or (a % 2) (b % 2) (omega arith) (omega arith) ∙ sym (ap₂ ◌||◌ (bit_low a) (bit_low b))
bit-or (suc q) a b =
    let e : bit_or a b / 2 ≡ bit_or (a / 2) (b / 2) = omega (arith, or_step a b) in
    bit_half q (bit_or a b) ∙ ap (bit q) e ∙ bit-or q (a / 2) (b / 2) ∙ sym (ap₂ ◌||◌ (bit_half q a) (bit_half q b))

-- A bit of both is a bit of what they share.
pub bit-and : (q a b : ℕ) → bit q (bit_and a b) ≡ (bit q a && bit q b)
bit-and zero a b =
    let e : bit_and a b % 2 ≡ min (a % 2) (b % 2) = omega (arith, and_step a b) in
    bit_low (bit_and a b) ∙ ap (λ x. eqb x 1) e ∙ odd_and (a % 2) (b % 2) (omega arith) (omega arith) ∙ sym (ap₂ ◌&&◌ (bit_low a) (bit_low b))
bit-and (suc q) a b =
    let e : bit_and a b / 2 ≡ bit_and (a / 2) (b / 2) = omega (arith, and_step a b) in
    bit_half q (bit_and a b) ∙ ap (bit q) e ∙ bit-and q (a / 2) (b / 2) ∙ sym (ap₂ ◌&&◌ (bit_half q a) (bit_half q b))

-- The number with one bit has that bit.
pub bit_pow : (p q : ℕ) → bit q (2 ^ p) ≡ eqb p q
bit_pow zero zero = refl
bit_pow zero (suc q) = bit_half q 1 ∙ bit_zero q ∙ sym (ne_eqb 0 (suc q) (λ e. absurd (omega arith)))
bit_pow (suc p) zero = bit_low (2 ^ suc p) ∙ ne_eqb _ _ (λ e. absurd (omega (arith, pow-suc 2 p))) ∙ sym (ne_eqb (suc p) 0 (λ e. absurd (omega arith)))
bit_pow (suc p) (suc q) =
    let e : 2 ^ suc p / 2 ≡ 2 ^ p = omega arith in
    bit_half q (2 ^ suc p) ∙ ap (bit q) e ∙ bit_pow p q ∙ sym (lib.Dec.eqb-suc-suc p q)

-- Numbers of n bits that have the same bits are the same.
pub bits_same : (n a b : ℕ) → a < 2 ^ n → b < 2 ^ n → ((q : ℕ) → q < n → bit q a ≡ bit q b) → a ≡ b
bits_same n a b h k same = sym (bits_of_fitting a n h) ∙ same_bits (λ q. bit q a) (λ q. bit q b) n same ∙ bits_of_fitting b n k
