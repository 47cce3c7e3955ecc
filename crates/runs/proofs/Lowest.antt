-- The lowest situation that only one of two masks has, and that one does where the masks differ.
use Rattle.std.proofs.Common.{◌≡◌, ℕ, zero, suc, ◌/◌, ◌%◌, ◌^◌, ◌<◌, Bool, true, false, eqb, sym, refl, ap, ◌∙◌, arith}
use Rattle.std.proofs.lemmas.Bool.{true≢false, false≢true, eqb-true, eqb-false}
use Rattle.masks.proofs.Operations.{bit_half, bit_low}
use Rattle.masks.specs.Bits.{bit}
use Rattle.runs.specs.Tracing.{lowest_apart, lowest_if}

-- Digits that are 1 or not alike are equal.
digits_same : (x y : ℕ) → x < 2 → y < 2 → eqb x 1 ≡ eqb y 1 → x ≡ y
digits_same zero zero a b e = refl
digits_same zero (suc zero) a b e = absurd (false≢true e)
digits_same zero (suc (suc y)) a b e = absurd (omega arith)
digits_same (suc zero) zero a b e = absurd (true≢false e)
digits_same (suc zero) (suc zero) a b e = refl
digits_same (suc zero) (suc (suc y)) a b e = absurd (omega arith)
digits_same (suc (suc x)) y a b e = absurd (omega arith)

-- Situation s, of n, is in one of the masks alone, and each below it is in both or in none.
abbrev pub Lowest : ℕ → ℕ → ℕ → ℕ → Type 0
Lowest n a b s = (s < n) × (bit s a ≡ bit s b → ⊥) × ((t : ℕ) → t < s → bit t a ≡ bit t b)

-- What is lowest for the halves is one higher for masks with the same lowest bit.
one_higher : (n a b s : ℕ) → a % 2 ≡ b % 2 → Lowest n (a / 2) (b / 2) s → Lowest (suc n) a b (suc s)
one_higher n a b s low h = (
  omega (arith, h.0),
  λ e. h.1 (sym (bit_half s a) ∙ e ∙ bit_half s b),
  elim [
    | zero ↦ λ l. bit_low a ∙ ap (λ x. eqb x 1) low ∙ sym (bit_low b)
    | suc t ↦ λ l. bit_half t a ∙ h.2 t (omega arith) ∙ sym (bit_half t b)
  ],
)

-- Where two masks of n situations differ, the lowest situation that only one has is that.
pub lowest_apart_lem : (n a b : ℕ) → a < 2 ^ n → b < 2 ^ n → (a ≡ b → ⊥) → Lowest n a b (lowest_apart n a b)
lowest_apart_lem zero a b h l differ = absurd (differ (omega arith))
lowest_apart_lem (suc n) a b h l differ = go (eqb (a % 2) (b % 2)) refl (λ halves. lowest_apart_lem n (a / 2) (b / 2) (omega arith) (omega arith) halves)
  where
    go : (c : Bool) → eqb (a % 2) (b % 2) ≡ c → ((a / 2 ≡ b / 2 → ⊥) → Lowest n (a / 2) (b / 2) (lowest_apart n (a / 2) (b / 2)))
        → Lowest (suc n) a b (lowest_if c (lowest_apart n (a / 2) (b / 2)))
    go true e higher =
        let low : a % 2 ≡ b % 2 = eqb-true (a % 2) (b % 2) e in
        one_higher n a b (lowest_apart n (a / 2) (b / 2)) low (higher (λ q. differ (omega arith)))
    go false e higher = (
      omega arith,
      λ q. eqb-false (a % 2) (b % 2) e (digits_same (a % 2) (b % 2) (omega arith) (omega arith) (sym (bit_low a) ∙ q ∙ bit_low b)),
      λ t less. absurd (omega arith),
    )
