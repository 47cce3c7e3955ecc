-- What the mask of a test says, and which vocabulary masks write down.
use Rattle.std.proofs.Common.{◌≡◌, ℕ, ◌^◌, ◌<◌, ◌≤◌, List, get_or, sym, ap, ◌∙◌, inl, inr, ⊎_elim}
use Rattle.std.proofs.lemmas.Bool.{cases_lt}
use Rattle.masks.specs.Bits.{bit}
use Rattle.masks.proofs.Operations.{bit_past}
use Rattle.vocabulary.specs.Masks.{mask_of}
use Rattle.vocabulary.specs.Meaning.{VocabularyMeaning, Lawful, asked, asked_outside}
use Rattle.vocabulary.specs.Written.{written, noted}
use Rattle.vocabulary.proofs.Asked.{asked_inside}
use Rattle.masks.proofs.Bits.{bits_fit, bit_of_bits, same_bits, no_bits, bits_of_fitting}

-- Bit s of the mask of a test says whether the test holds in s.
pub mask_bit : (m : VocabularyMeaning) → Lawful m → (t s : ℕ) → bit s (mask_of m t) ≡ m.holds t s
mask_bit m l t s =
    ⊎_elim
    (λ (h : s < m.situations). bit_of_bits (m.holds t) m.situations s h)
    (λ (h : m.situations ≤ s).
    bit_past (mask_of m t) m.situations s (bits_fit (m.holds t) m.situations) h ∙ sym (l.outside t s (inr h)))
    (cases_lt s m.situations)

-- The mask at a test, where it has no bit past the situations, is the test's mask.
pub mask_written : (situations tests : ℕ) (masks : List ℕ) (t : ℕ) → t < tests → get_or masks t 0 < 2 ^ situations → get_or masks t 0 ≡ mask_of (written situations tests masks) t
mask_written situations tests masks t h k =
    sym (same_bits (asked tests situations (noted masks) t) (λ s. bit s (get_or masks t 0)) situations (λ s b. asked_inside tests situations (noted masks) t s h b)
    ∙ bits_of_fitting (get_or masks t 0) situations k)

-- The mask of a test out of range is 0.
pub mask_outside : (m : VocabularyMeaning) → Lawful m → (t : ℕ) → m.tests ≤ t → 0 ≡ mask_of m t
mask_outside m l t h = sym (no_bits (m.holds t) m.situations (λ s k. l.outside t s (inl h)))

-- With the counts of m, and the mask of each test in its place, each question is answered as m answers it.
written_holds : (m : VocabularyMeaning) → Lawful m → (masks : List ℕ) → ((t : ℕ) → t < m.tests → get_or masks t 0 ≡ mask_of m t) → (t s : ℕ) → asked m.tests m.situations (noted masks) t s ≡ m.holds t s
written_holds m l masks each t s =
    ⊎_elim
    (λ (h : t < m.tests). ⊎_elim
    (λ (k : s < m.situations).
    asked_inside m.tests m.situations (noted masks) t s h k ∙ ap (bit s) (each t h) ∙ mask_bit m l t s)
    (λ (k : m.situations ≤ s).
    asked_outside m.tests m.situations (noted masks) t s (inr k) ∙ sym (l.outside t s (inr k)))
    (cases_lt s m.situations))
    (λ (h : m.tests ≤ t).
    asked_outside m.tests m.situations (noted masks) t s (inl h) ∙ sym (l.outside t s (inl h)))
    (cases_lt t m.tests)

-- So it is m that they write down.
pub written_is : (m : VocabularyMeaning) → Lawful m → (situations tests : ℕ) (masks : List ℕ) → situations ≡ m.situations → tests ≡ m.tests → ((t : ℕ) → t < m.tests → get_or masks t 0 ≡ mask_of m t) → written situations tests masks ≡ m
written_is m l situations tests masks es et each =
    (λ i. written (es i) (et i) masks)
    ∙ (λ i. record { situations = m.situations; tests = m.tests; holds = λ t s. written_holds m l masks each t s i })
