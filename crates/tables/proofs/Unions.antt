-- Operations on masks that are made of answers.
use Rattle.std.proofs.Common.{◌≡◌, ℕ, zero, suc, ◌+◌, ◌-◌, ◌/◌, ◌%◌, ◌^◌, ◌<◌, ◌≤◌, Bool, true, false, cond, not, ◌&&◌, ◌||◌, eqb, sym, refl, ap, ◌∙◌, ap₂, ⊎_elim, pow-suc, arith, pow_pos}
use lib.Bits.{and_comm, and_lt, and_mask, bit_and, bit_or, or_lt}
use lib.Pow.{high, not_mod, ones_lt, ones_split}
use Rattle.std.proofs.lemmas.Nat.{pow_below}
use Rattle.std.proofs.lemmas.Bool.{cases_lt, cond-false, cond-true, le-ltb, lt-ltb, ne_eqb}
use Rattle.masks.specs.Bits.{bits_below}
use Rattle.masks.proofs.Bits.{bit_of_bits, bits_fit, no_bits}
use Rattle.masks.proofs.Operations.{bit-and, bit-or, bit_pow, bits_same}
use Rattle.tables.specs.Parts.{place_bit}

-- Answers that are all no.
pub bits_no : (n : ℕ) → 0 ≡ bits_below (λ s. false) n
bits_no n = sym (no_bits (λ s. false) n (λ s h. refl))

-- The union has the bits of either.
pub bits_or : (f g : ℕ → Bool) (n : ℕ) → bit_or (bits_below f n) (bits_below g n) ≡ bits_below (λ s. f s || g s) n
bits_or f g n = bits_same n _ _ (or_lt n _ _ (bits_fit f n) (bits_fit g n)) (bits_fit (λ s. f s || g s) n)
    (λ q h. bit-or q (bits_below f n) (bits_below g n) ∙ ap₂ ◌||◌ (bit_of_bits f n q h) (bit_of_bits g n q h) ∙ sym (bit_of_bits (λ s. f s || g s) n q h))

-- What both share has the bits of both.
pub bits_and : (f g : ℕ → Bool) (n : ℕ) → bit_and (bits_below f n) (bits_below g n) ≡ bits_below (λ s. f s && g s) n
bits_and f g n = bits_same n _ _ (and_lt n _ _ (bits_fit f n) (bits_fit g n)) (bits_fit (λ s. f s && g s) n)
    (λ q h. bit-and q (bits_below f n) (bits_below g n) ∙ ap₂ ◌&&◌ (bit_of_bits f n q h) (bit_of_bits g n q h) ∙ sym (bit_of_bits (λ s. f s && g s) n q h))

-- All below n make 2 ^ n - 1.
pub bits_all : (n : ℕ) → bits_below (λ s. true) n ≡ 2 ^ n - 1
unfolding bits_below
bits_all zero = refl
bits_all (suc n) = let less = bits_all n in let pos = pow_pos n in omega (arith, pow-suc 2 n)

-- All 64, shifted down to n.
pub all_shifted : (n : ℕ) → n ≤ 64 → (2 ^ 64 - 1) / 2 ^ (64 - n) ≡ bits_below (λ s. true) n
all_shifted n h =
    let whole : 64 ≡ n + (64 - n) = omega arith in
    ap (λ k. (2 ^ k - 1) / 2 ^ (64 - n)) whole
    ∙ ap (λ x. x / 2 ^ (64 - n)) (ones_split n (64 - n))
    ∙ high (2 ^ n - 1) (64 - n) (ones_lt (64 - n))
    ∙ sym (bits_all n)

-- A digit and its contrary.
digits : (b : Bool) (x : ℕ) → cond (not b) x 0 + cond b x 0 ≡ x
digits true x = omega arith
digits false x = omega arith

-- Answers and their contraries make all.
contraries : (f : ℕ → Bool) (n : ℕ) → bits_below (λ s. not (f s)) n + bits_below f n ≡ 2 ^ n - 1
unfolding bits_below
contraries f zero = refl
contraries f (suc n) = let less = contraries f n in let pos = pow_pos n in omega (arith, pow-suc 2 n, digits (f n) (2 ^ n))

-- Of all, what a mask lacks.
pub bits_not : (f : ℕ → Bool) (n : ℕ) → n ≤ 64 → bit_and (bits_below (λ s. true) n) (2 ^ 64 - 1 - bits_below f n) ≡ bits_below (λ s. not (f s)) n
bits_not f n h =
    let whole : 64 ≡ (64 - n) + n = omega arith in
    let fits = bits_fit f n in
    let sum = contraries f n in
    let low : (2 ^ n - 1) - bits_below f n ≡ bits_below (λ s. not (f s)) n = omega arith in
    ap (λ x. bit_and x (2 ^ 64 - 1 - bits_below f n)) (bits_all n)
    ∙ and_comm (2 ^ n - 1) (2 ^ 64 - 1 - bits_below f n)
    ∙ and_mask (2 ^ 64 - 1 - bits_below f n) n
    ∙ ap (λ k. (2 ^ k - 1 - bits_below f n) % 2 ^ n) whole
    ∙ not_mod (64 - n) n fits
    ∙ low

-- A mask that is taken only under a condition.
pub bits_when : (b : Bool) (f : ℕ → Bool) (n : ℕ) → cond b (bits_below f n) 0 ≡ bits_below (λ q. b && f q) n
bits_when true f n = refl
bits_when false f n = bits_no n

-- The mask of one place.
pub bits_one : (p : ℕ) → place_bit p ≡ bits_below (λ q. eqb p q) 64
bits_one p =
    ⊎_elim
    (λ (h : p < 64). cond-true _ _ _ (lt-ltb p 64 h)
    ∙ bits_same 64 _ _ (pow_below p 64 h) (bits_fit (λ q. eqb p q) 64) (λ q k. bit_pow p q ∙ sym (bit_of_bits (λ q. eqb p q) 64 q k)))
    (λ (h : 64 ≤ p). cond-false _ _ _ (le-ltb p 64 h) ∙ sym (no_bits (λ q. eqb p q) 64 (λ q k. ne_eqb p q (λ e. absurd (omega arith)))))
    (cases_lt p 64)
