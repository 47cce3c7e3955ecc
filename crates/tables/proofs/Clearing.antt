-- A code gone through from its lowest place on: `m.trailing_zeros()` is that place, and `m & (m - 1)` the code without it.
use Rattle.std.proofs.Common.{◌≡◌, ℕ, zero, suc, ◌-◌, ◌/◌, ◌%◌, ◌^◌, ◌<◌, ◌≤◌, Bool, true, false, ◌&&◌, ◌||◌, eqb, ltb, sym, refl, ap, ◌∙◌, ap₂, ⊎_elim, arith}
use lib.Bits.{and_step, bit_and, bit_or}
use lib.Count.{count_trailing_zeros, under}
use Rattle.std.specs.Int.{w64}
use Rattle.std.specs.Int.Bits.{and_self}
use Rattle.std.proofs.lemmas.Nat.Bits.{bit_at-trailing_zeros}
use Rattle.std.proofs.lemmas.Bool.{cases_eq, cases_lt, eq-eqb, le-ltb, lt-ltb, ne_eqb}
use Rattle.masks.specs.Bits.{bit}
use Rattle.masks.proofs.Operations.{bit-or, bit_half, bit_low, bit_zero}
use Rattle.tables.specs.Tables.{any_below, reaches}
use Rattle.tables.proofs.Answers.{any_no}
use Rattle.tables.proofs.Bools.{or_assoc, or_false}
use Rattle.tables.proofs.Marked.{any_same}

-- An odd number has bit 0, and without it its half is the same.
odd_cleared : (m k : ℕ) → m % 2 ≡ 1 → bit k m ≡ (eqb k 0 || bit k (bit_and m (m - 1)))
odd_cleared m zero odd = bit_low m ∙ eq-eqb (m % 2) 1 odd
odd_cleared m (suc j) odd =
    let step = and_step m (m - 1) in
    let same : (m - 1) / 2 ≡ m / 2 = omega arith in
    let both : bit_and (m / 2) ((m - 1) / 2) ≡ m / 2 = ap (bit_and (m / 2)) same ∙ and_self (m / 2) in
    let half : bit_and m (m - 1) / 2 ≡ m / 2 = omega arith in
    bit_half j m ∙ ap (bit j) (sym half) ∙ sym (bit_half j (bit_and m (m - 1))) ∙ sym (ap (λ b. b || bit (suc j) (bit_and m (m - 1))) (ne_eqb (suc j) 0 (λ e. absurd (omega arith))))

-- An even number has the bits of its half, one place on.
even_cleared : (m k t : ℕ) → (m % 2 ≡ 1 → ⊥) → (m ≡ 0 → ⊥) → ((j : ℕ) → bit j (m / 2) ≡ (eqb j t || bit j (bit_and (m / 2) (m / 2 - 1)))) → bit k m ≡ (eqb k (suc t) || bit k (bit_and m (m - 1)))
even_cleared m k t even some halves = go k
  where
    x : ℕ
    x = bit_and m (m - 1)

    half : x / 2 ≡ bit_and (m / 2) (m / 2 - 1)
    half =
        let step = and_step m (m - 1) in
        let less : (m - 1) / 2 ≡ m / 2 - 1 = omega arith in
        let both = ap (bit_and (m / 2)) less in
        omega arith

    low : x % 2 ≡ 1 → ⊥
    low e = let step = and_step m (m - 1) in absurd (omega arith)

    go : (k : ℕ) → bit k m ≡ (eqb k (suc t) || bit k x)
    go zero = bit_low m ∙ ne_eqb (m % 2) 1 even ∙ sym (ap₂ ◌||◌ (ne_eqb 0 (suc t) (λ e. absurd (omega arith))) (bit_low x ∙ ne_eqb (x % 2) 1 low))
    go (suc j) = bit_half j m ∙ halves j ∙ ap₂ ◌||◌ (sym (lib.Dec.eqb-suc-suc j t)) (ap (bit j) (sym half) ∙ sym (bit_half j x))

-- The bits of a number below 2 ^ n that is not 0 are the lowest, and those of the number without it.
pub cleared : (n m k : ℕ) → m < 2 ^ n → (m ≡ 0 → ⊥) → bit k m ≡ (eqb k (count_trailing_zeros n m) || bit k (bit_and m (m - 1)))
unfolding count_trailing_zeros
cleared zero m k h some = absurd (some (omega arith))
cleared (suc n) m k h some =
    ⊎_elim
    (λ (odd : m % 2 ≡ 1). odd_cleared m k odd ∙ ap (λ d. eqb k (under d (count_trailing_zeros n (m / 2))) || bit k (bit_and m (m - 1))) (sym odd))
    (λ (even : m % 2 ≡ 1 → ⊥).
    let digit : 0 ≡ m % 2 = omega arith in
    even_cleared m k (count_trailing_zeros n (m / 2)) even some (λ j. cleared n (m / 2) j (omega arith) (λ e. absurd (some (omega arith))))
    ∙ ap (λ d. eqb k (under d (count_trailing_zeros n (m / 2))) || bit k (bit_and m (m - 1))) digit)
    (cases_eq (m % 2) 1)

-- The lowest place of a code that has one is among the 64.
lowest_below : (m : ℕ) → m < 2 ^ 64 → (m ≡ 0 → ⊥) → count_trailing_zeros 64 m < 64
lowest_below m fits some = (bit_at-trailing_zeros w64 m (omega arith) fits).0

-- What is met once more changes nothing.
met_once : (x b c : Bool) → (x || c) ≡ (c || (x || (b && c)))
met_once true b true = refl
met_once true b false = refl
met_once false b true = refl
met_once false true false = refl
met_once false false false = refl

-- Below n + 1 are the same numbers as below n, but for n.
other_below : (t n : ℕ) → (t ≡ n → ⊥) → ltb t n ≡ ltb t (suc n)
other_below t n ne =
    ⊎_elim
    (λ (h : t < n). lt-ltb t n h ∙ sym (lt-ltb t (suc n) (omega arith)))
    (λ (h : n ≤ t). let past : suc n ≤ t = omega arith in le-ltb t n h ∙ sym (le-ltb t (suc n) past))
    (cases_lt t n)

-- With one place more, what is asked of it is asked once more.
any_joined : (t : ℕ) (b c : ℕ → Bool) (n : ℕ) → any_below (λ k. (eqb k t || b k) && c k) n ≡ ((ltb t n && c t) || any_below (λ k. b k && c k) n)
unfolding any_below
any_joined t b c zero = sym (ap (λ x. (x && c t) || false) (le-ltb t 0 (omega arith)))
any_joined t b c (suc n) =
    let less = any_below (λ k. b k && c k) n in
    let before = any_joined t b c n in
    ⊎_elim
    (λ (e : t ≡ n).
    ap₂ ◌||◌ (before ∙ ap (λ x. (x && c t) || less) (le-ltb t n (omega arith))) (ap (λ x. (x || b n) && c n) (eq-eqb n t (sym e)))
    ∙ met_once less (b n) (c n)
    ∙ ap₂ (λ x y. (x && y) || (less || (b n && c n))) (sym (lt-ltb t (suc n) (omega arith))) (ap c (sym e)))
    (λ (ne : t ≡ n → ⊥).
    ap₂ ◌||◌ before (ap (λ x. (x || b n) && c n) (ne_eqb n t (λ e. ne (sym e))))
    ∙ sym (or_assoc (ltb t n && c t) less (b n && c n))
    ∙ ap (λ x. (x && c t) || (less || (b n && c n))) (other_below t n ne))
    (cases_eq t n)

-- The union, with what a row has at the places that are left of a code, is what it has at all of its places.
abbrev pub Left : (ℕ → ℕ) → ℕ → ℕ → ℕ → Type 0
Left row code rest union = (q : ℕ) → (bit q union || reaches row rest q) ≡ reaches row code q

module _ (row : ℕ → ℕ) (code rest union : ℕ) (left : Left row code rest union) where
  -- The lowest of them is joined in.
  pub lowest_joined : rest < 2 ^ 64 → (rest ≡ 0 → ⊥)
      → Left row code (bit_and rest (rest - 1)) (bit_or union (row (count_trailing_zeros 64 rest)))
  lowest_joined fits some q =
      let t = count_trailing_zeros 64 rest in
      let others = reaches row (bit_and rest (rest - 1)) q in
      let whole : reaches row rest q ≡ (bit q (row t) || others) =
      any_same (λ k. bit k rest && bit q (row k)) (λ k. (eqb k t || bit k (bit_and rest (rest - 1))) && bit q (row k)) 64 (λ k h. ap (λ b. b && bit q (row k)) (cleared 64 rest k fits some))
      ∙ any_joined t (λ k. bit k (bit_and rest (rest - 1))) (λ k. bit q (row k)) 64
      ∙ ap (λ b. (b && bit q (row t)) || others) (lt-ltb t 64 (lowest_below rest fits some)) in
      ap (λ b. b || others) (bit-or q union (row t))
      ∙ sym (or_assoc (bit q union) (bit q (row t)) others)
      ∙ ap (λ b. bit q union || b) (sym whole)
      ∙ left q

  -- When none is left the union is whole.
  pub none_left : rest ≡ 0 → (q : ℕ) → bit q union ≡ reaches row code q
  none_left none q =
      sym (or_false (bit q union))
      ∙ ap (λ b. bit q union || b) (sym (any_no (λ k. bit k rest && bit q (row k)) 64 (λ k h. ap (λ b. b && bit q (row k)) (ap (bit k) none ∙ bit_zero k))))
      ∙ left q
