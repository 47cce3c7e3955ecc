-- The digits of a number are read back as the number, and no other bytes are.
use Rattle.std.proofs.Common.{◌≡◌, ℕ, zero, suc, ◌^◌, ◌<◌, Bool, true, false, cond, ◌&&◌, ltb, List, [], ◌∷◌, length, get_or, Some, None, decimal, sym, refl, ap, ◌∙◌, arith, rules}
use Rattle.std.proofs.lemmas.Fmt.{decimal_digit, decimal_nonempty, decimal-digits_value, digits_decimal, first_decimal, digits_value-decimal}
use Rattle.std.proofs.lemmas.Str.Parse.{IsNumeralModel, numerals_by_fold, tells_all_ascii_digits}
use Rattle.std.proofs.lemmas.Bool.{and_from, and_parts, cond-true, lt-ltb, ltb-true}
use Rattle.std.specs.Str.{all_ascii_digits}
use Rattle.words.specs.Decimal.{DigitsOf}
use Rattle.words.specs.Number.{value_on, number_on, number_of}

-- READ BACK

own : IsNumeralModel (λ ds. all_ascii_digits ds ≡ true) (value_on 0)
own = numerals_by_fold _ tells_all_ascii_digits value_on (search rules)

number_is : (ds : List ℕ) (n : ℕ) → 0 < length ds → all_ascii_digits ds ≡ true → value_on 0 ds ≡ n → n < 2 ^ 64 → number_of ds ≡ Some n
number_is ds n some all v h =
    let value = value_on 0 ds in
    let fits : value < 2 ^ 64 = omega (arith, v) in
    let both = and_from (all_ascii_digits ds) (ltb value (2 ^ 64)) all (lt-ltb value (2 ^ 64) fits) in
    cond-true (ltb 0 (length ds)) (number_on 0 ds) None (lt-ltb 0 (length ds) some) ∙ cond-true _ (Some value) None both ∙ ap Some v

no_zero : (n : ℕ) → n < 2 ^ 64 → get_or (decimal n) 0 0 ≡ 48 → decimal n ≡ 48 ∷ []
no_zero zero h e = decimal_digit 0 (omega arith)
no_zero (suc n) h e = absurd (omega (arith, first_decimal (suc n) (omega arith) h))

pub digits_of : (n : ℕ) → n < 2 ^ 64 → DigitsOf n (decimal n)
digits_of n h = record { back = number_is (decimal n) n (decimal_nonempty n h) (digits_decimal own n h) (digits_value-decimal own n h) h; first = no_zero n h }

-- NO OTHER BYTES ARE

some_from : (x y : Bool) (v n : ℕ) → cond x (cond y (Some v) None) None ≡ Some n → (x ≡ true) × (y ≡ true) × (v ≡ n)
some_from true true v n e = (refl, refl, cc)
some_from true false v n e = let z : ◌≡◌ {A = ℕ} 0 1 = cc in absurd (omega arith)
some_from false y v n e = let z : ◌≡◌ {A = ℕ} 0 1 = cc in absurd (omega arith)

pub only : (n : ℕ) (bs : List ℕ) → DigitsOf n bs → bs ≡ decimal n
only n bs h =
    let value = value_on 0 bs in
    let read = some_from (ltb 0 (length bs)) (all_ascii_digits bs && ltb value (2 ^ 64)) value n h.back in
    let all = and_parts (all_ascii_digits bs) (ltb value (2 ^ 64)) read.1 in
    let one : get_or bs 0 0 ≡ 48 → length bs ≡ 1 = λ e. ap length (h.first e) in
    sym (decimal-digits_value own bs all.0 (ltb-true 0 (length bs) read.0) one (ltb-true value (2 ^ 64) all.1)) ∙ ap decimal read.2
