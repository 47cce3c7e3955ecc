-- A number made of answers has them as its bits, and a number is made of its bits.
use Rattle.std.proofs.Common.{◌≡◌, ℕ, zero, suc, ◌+◌, ◌-◌, ◌*◌, ◌/◌, ◌%◌, ◌^◌, ◌<◌, Bool, true, false, cond, eqb, sym, refl, ap, ◌∙◌, subst, ⊎_elim, add-zero, mod-eq_of_lt, mul_assoc, mul_comm, add_comm, pow-suc, add-one, arith, pow_pos, pow-add}
use native.Mathlib.Nat.{add-mul-div_right, add-mul-mod_self_right, mod-one}
use lib.Pow.{high, mod-pow-add}
use Rattle.std.proofs.lemmas.Nat.{one_shl}
use Rattle.std.proofs.lemmas.Bool.{cases_eq, cond-true, cond-false}
use Rattle.masks.specs.Bits.{bit, bits_below}

-- What a yes or no adds at bit n, as a multiple of 2 ^ n.
at_digit : (b : Bool) (n : ℕ) → cond b (2 ^ n) 0 ≡ cond b 1 0 * 2 ^ n
at_digit true n = omega arith
at_digit false n = omega arith

-- Bits below n do not see a multiple of 2 ^ n.
bit_keeps : (b c n s : ℕ) → s < n → bit s (b + c * 2 ^ n) ≡ bit s b
bit_keeps b c n s h =
    let d = n - suc s in
    let e : n ≡ d + suc s = omega arith in
    let parts : c * 2 ^ n ≡ (c * 2 ^ d) * 2 * 2 ^ s =
    ap (λ k. c * 2 ^ k) e ∙ ap (λ x. c * x) (pow-add 2 d (suc s) ∙ ap (λ x. 2 ^ d * x) (pow-suc 2 s ∙ mul_comm (2 ^ s) 2))
    ∙ sym (mul_assoc c (2 ^ d) (2 * 2 ^ s)) ∙ sym (mul_assoc (c * 2 ^ d) 2 (2 ^ s)) in
    ap (λ x. eqb (x % 2) 1) (ap (λ x. (b + x) / 2 ^ s) parts ∙ add-mul-div_right b ((c * 2 ^ d) * 2) (pow_pos s))
    ∙ ap (λ x. eqb x 1) (add-mul-mod_self_right (b / 2 ^ s) (c * 2 ^ d) 2)

-- A number below 2 ^ n, with one digit more, fits one bit more.
one_more_fits : (b : Bool) (n x : ℕ) → x < 2 ^ n → x + cond b (2 ^ n) 0 < 2 ^ suc n
one_more_fits true n x h = omega (arith, pow-suc 2 n)
one_more_fits false n x h = omega (arith, pow-suc 2 n)

-- The answers below n make a number of n bits.
pub bits_fit : (f : ℕ → Bool) (n : ℕ) → bits_below f n < 2 ^ n
unfolding bits_below
bits_fit f zero = omega arith
bits_fit f (suc n) = one_more_fits (f n) n (bits_below f n) (bits_fit f n)

-- The one bit of a digit.
bit_of_one : (b : Bool) → eqb (cond b 1 0 % 2) 1 ≡ b
bit_of_one true = refl
bit_of_one false = refl

-- Above a number of n bits stands the digit that is added at bit n.
bit_of_digit : (b : Bool) (n x : ℕ) → x < 2 ^ n → bit n (x + cond b (2 ^ n) 0) ≡ b
bit_of_digit b n x h =
    let parts : x + cond b (2 ^ n) 0 ≡ cond b 1 0 * 2 ^ n + x = ap (λ y. x + y) (at_digit b n) ∙ add_comm x (cond b 1 0 * 2 ^ n) in
    ap (λ y. eqb (y % 2) 1) (ap (λ y. y / 2 ^ n) parts ∙ high (cond b 1 0) n h) ∙ bit_of_one b

-- Each answer below n is a bit of the number that they make.
pub bit_of_bits : (f : ℕ → Bool) (n s : ℕ) → s < n → bit s (bits_below f n) ≡ f s
unfolding bits_below
bit_of_bits f zero s h = absurd (omega arith)
bit_of_bits f (suc n) s h =
    ⊎_elim
    (λ (e : s ≡ n). subst (λ k. bit k (bits_below f (suc n)) ≡ f k) (sym e) (bit_of_digit (f n) n (bits_below f n) (bits_fit f n)))
    (λ (ne : s ≡ n → ⊥).
    let lt : s < n = omega arith in
    ap (λ x. bit s (bits_below f n + x)) (at_digit (f n) n) ∙ bit_keeps (bits_below f n) (cond (f n) 1 0) n s lt ∙ bit_of_bits f n s lt)
    (cases_eq s n)

-- Equal answers make equal numbers.
pub same_bits : (f g : ℕ → Bool) (n : ℕ) → ((s : ℕ) → s < n → f s ≡ g s) → bits_below f n ≡ bits_below g n
unfolding bits_below
same_bits f g zero h = refl
same_bits f g (suc n) h =
    let less : bits_below f n ≡ bits_below g n = same_bits f g n (λ s k. h s (omega arith)) in
    let last : f n ≡ g n = h n (omega arith) in
    λ i. less i + cond (last i) (2 ^ n) 0

-- Answers that are all no make 0.
pub no_bits : (f : ℕ → Bool) (n : ℕ) → ((s : ℕ) → s < n → f s ≡ false) → bits_below f n ≡ 0
unfolding bits_below
no_bits f zero h = refl
no_bits f (suc n) h =
    let less : bits_below f n ≡ 0 = no_bits f n (λ s k. h s (omega arith)) in
    let last : f n ≡ false = h n (omega arith) in
    λ i. less i + cond (last i) (2 ^ n) 0

-- What a bit of a number adds is the number's digit there.
digit_of_bit : (d n : ℕ) → d < 2 → cond (eqb d 1) (2 ^ n) 0 ≡ d * 2 ^ n
digit_of_bit zero n h = omega arith
digit_of_bit (suc zero) n h = omega arith
digit_of_bit (suc (suc d)) n h = absurd (omega arith)

-- The bits of a number below n make what it leaves at 2 ^ n.
bits_of : (x n : ℕ) → bits_below (λ s. bit s x) n ≡ x % 2 ^ n
unfolding bits_below
bits_of x zero = sym (mod-one x)
bits_of x (suc n) =
    let more : cond (bit n x) (2 ^ n) 0 ≡ (x / 2 ^ n % 2) * 2 ^ n = digit_of_bit (x / 2 ^ n % 2) n (omega arith) in
    let less = bits_of x n in
    let whole = mod-pow-add x 1 n in
    let e : x % 2 ^ suc n ≡ x % 2 ^ (1 + n) = ap (λ k. x % 2 ^ k) (omega arith) in
    omega arith

-- A number of n bits is made of them.
pub bits_of_fitting : (x n : ℕ) → x < 2 ^ n → bits_below (λ s. bit s x) n ≡ x
bits_of_fitting x n h = bits_of x n ∙ mod-eq_of_lt h

-- No answers make 0.
pub bits_none : (f : ℕ → Bool) → 0 ≡ bits_below f 0
unfolding bits_below
bits_none f = refl

-- A yes at n adds 2 ^ n, as `1 << n` has it in 64 bits.
pub bits_more_yes : (f : ℕ → Bool) (n x : ℕ) → n < 64 → x ≡ bits_below f n → true ≡ f n → x + (1 * 2 ^ n) % 2 ^ 64 ≡ bits_below f (n + 1)
unfolding bits_below
bits_more_yes f n x h is e = rw add-one (λ i. is i + (one_shl n 64 h ∙ sym (cond-true (f n) (2 ^ n) 0 (sym e))) i)

-- A no at n adds nothing.
pub bits_more_no : (f : ℕ → Bool) (n x : ℕ) → x ≡ bits_below f n → false ≡ f n → x ≡ bits_below f (n + 1)
unfolding bits_below
bits_more_no f n x is e = rw add-one (sym (add-zero x) ∙ (λ i. is i + sym (cond-false (f n) (2 ^ n) 0 (sym e)) i))

-- One bit more doubles what fits.
room_doubles : (n : ℕ) → 2 ^ (n + 1) ≡ 2 ^ n * 2
room_doubles n = rw add-one (pow-suc 2 n)

-- A number of n bits, with the bit at n, fits n + 1 bits.
pub fits_with_bit : (n x : ℕ) → n < 64 → x < 2 ^ n → x + (1 * 2 ^ n) % 2 ^ 64 < 2 ^ (n + 1)
fits_with_bit n x h low = omega (arith, one_shl n 64 h, room_doubles n)

-- A number of n bits fits n + 1 bits.
pub fits_without_bit : (n x : ℕ) → x < 2 ^ n → x < 2 ^ (n + 1)
fits_without_bit n x low = omega (arith, room_doubles n)
