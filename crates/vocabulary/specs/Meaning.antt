-- What a vocabulary means, and the laws that every vocabulary shows of its meaning.
use Rattle.std.specs.Prelude.{◌≡◌, ℕ, ◌≤◌, Bool, false, ◌&&◌, ◌⊎◌, nat_lt}
use Rattle.std.proofs.Common.{inl, inr}
use Rattle.std.proofs.lemmas.Bool.{and_left, and_right, le-ltb}

-- A vocabulary has situations and tests, each numbered from 0, and says of every test and situation whether the test holds there.
pub record VocabularyMeaning : Type 0 where
  pub situations : ℕ
  pub tests : ℕ
  pub holds : ℕ → ℕ → Bool

-- There are 1 to 64 situations and at most 32 tests, and a test or a situation out of range is answered no.
pub record Lawful (m : VocabularyMeaning) : Type 0 where
  pub some : 1 ≤ m.situations
  pub most : m.situations ≤ 64
  pub few : m.tests ≤ 32
  pub outside : (t s : ℕ) → (m.tests ≤ t) ⊎ (m.situations ≤ s) → m.holds t s ≡ false

-- Test t asked in situation s, of so many tests and situations: no where either is out of range, else what `says` says.
abbrev pub asked : ℕ → ℕ → (ℕ → ℕ → Bool) → ℕ → ℕ → Bool
asked tests situations says t s = nat_lt t tests && (nat_lt s situations && says t s)

-- A question out of range is answered no.
pub asked_outside : (tests situations : ℕ) (says : ℕ → ℕ → Bool) (t s : ℕ) → (tests ≤ t) ⊎ (situations ≤ s) → asked tests situations says t s ≡ false
asked_outside tests situations says t s (inl h) = and_left _ _ (le-ltb t tests h)
asked_outside tests situations says t s (inr h) = and_right _ _ (and_left _ _ (le-ltb s situations h))
