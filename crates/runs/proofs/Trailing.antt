-- The lowest situation that only one of two masks has, as code computes it: `(a ^ b).trailing_zeros()`.
use Rattle.std.proofs.Common.{◌≡◌, ℕ, zero, suc, ◌+◌, ◌-◌, ◌/◌, ◌%◌, ◌^◌, ◌<◌, ◌≤◌, Bool, true, false, eqb, refl, ap, ◌∙◌, ap₂, suc-add, arith}
use lib.Bits.{bit_xor, differ, xor_step}
use lib.Count.{count_trailing_zeros, under}
use Rattle.std.proofs.lemmas.Bool.{eqb-true}
use Rattle.runs.specs.Tracing.{lowest_apart, lowest_if}

-- One digit: 0 where the two are the same, and the count goes on; 1 where they differ, and it ends.
digit_counts : (x y higher : ℕ) → x < 2 → y < 2 → under (differ x y) higher ≡ lowest_if (eqb x y) higher
digit_counts zero zero higher a b = refl
digit_counts zero (suc zero) higher a b = refl
digit_counts zero (suc (suc y)) higher a b = absurd (omega arith)
digit_counts (suc zero) zero higher a b = refl
digit_counts (suc zero) (suc zero) higher a b = refl
digit_counts (suc zero) (suc (suc y)) higher a b = absurd (omega arith)
digit_counts (suc (suc x)) y higher a b = absurd (omega arith)

-- It is a digit.
digit_below : (x y : ℕ) → x < 2 → y < 2 → differ x y < 2
digit_below zero zero a b = omega arith
digit_below zero (suc zero) a b = omega arith
digit_below zero (suc (suc y)) a b = absurd (omega arith)
digit_below (suc zero) zero a b = omega arith
digit_below (suc zero) (suc zero) a b = omega arith
digit_below (suc zero) (suc (suc y)) a b = absurd (omega arith)
digit_below (suc (suc x)) y a b = absurd (omega arith)

-- The zeros that end `a ^ b`, in n bits, are as many as the lowest situation's number.
pub trailing_lowest : (n a b : ℕ) → count_trailing_zeros n (bit_xor a b) ≡ lowest_apart n a b
unfolding count_trailing_zeros
trailing_lowest zero a b = refl
trailing_lowest (suc n) a b =
    let digit : differ (a % 2) (b % 2) < 2 = digit_below (a % 2) (b % 2) (omega arith) (omega arith) in
    let low : bit_xor a b % 2 ≡ differ (a % 2) (b % 2) = omega (arith, xor_step a b) in
    let high : bit_xor a b / 2 ≡ bit_xor (a / 2) (b / 2) = omega (arith, xor_step a b) in
    ap₂ (λ x y. under x (count_trailing_zeros n y)) low high
    ∙ ap (λ t. under (differ (a % 2) (b % 2)) t) (trailing_lowest n (a / 2) (b / 2))
    ∙ digit_counts (a % 2) (b % 2) (lowest_apart n (a / 2) (b / 2)) (omega arith) (omega arith)

-- Where masks of n bits differ, more bits change nothing.
lowest_wider : (n d a b : ℕ) → a < 2 ^ n → b < 2 ^ n → (a ≡ b → ⊥) → lowest_apart (n + d) a b ≡ lowest_apart n a b
lowest_wider zero d a b h l apart = absurd (apart (omega arith))
lowest_wider (suc n) d a b h l apart =
    ap (λ x. lowest_apart x a b) (suc-add n d) ∙ go (eqb (a % 2) (b % 2)) refl (λ halves. lowest_wider n d (a / 2) (b / 2) (omega arith) (omega arith) halves)
  where
    go : (c : Bool) → eqb (a % 2) (b % 2) ≡ c → ((a / 2 ≡ b / 2 → ⊥) → lowest_apart (n + d) (a / 2) (b / 2) ≡ lowest_apart n (a / 2) (b / 2))
        → lowest_if c (lowest_apart (n + d) (a / 2) (b / 2)) ≡ lowest_if c (lowest_apart n (a / 2) (b / 2))
    go true e higher = let low = eqb-true (a % 2) (b % 2) e in ap suc (higher (λ q. apart (omega arith)))
    go false e higher = refl

-- Where masks of at most 64 situations differ, the lowest of 64 is the lowest of theirs.
pub lowest_in_64 : (n a b : ℕ) → n ≤ 64 → a < 2 ^ n → b < 2 ^ n → (a ≡ b → ⊥) → lowest_apart 64 a b ≡ lowest_apart n a b
lowest_in_64 n a b most h l apart =
    let e : 64 ≡ n + (64 - n) = omega arith in
    ap (λ x. lowest_apart x a b) e ∙ lowest_wider n (64 - n) a b h l apart
