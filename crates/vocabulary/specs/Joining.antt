-- What it is for a vocabulary to join two others: two statements about the three meanings, without division.
use Rattle.std.specs.Prelude.{◌≡◌, ℕ, ◌+◌, ◌<◌}
use Rattle.vocabulary.specs.Meaning.{VocabularyMeaning}
use Rattle.vocabulary.specs.Joined.{join}

-- Where s₁ and s₂ are joined, each test of the first holds exactly when it holds in s₁, and each of the second, counted
-- from the first's tests on, exactly when it holds in s₂.
pub record HoldsInItsPart (first second whole : VocabularyMeaning) (s₁ s₂ : ℕ) : Type 0 where
  pub of_first : (t : ℕ) → t < first.tests → whole.holds t (join second.situations s₁ s₂) ≡ first.holds t s₁
  pub of_second : (t : ℕ) → t < second.tests → whole.holds (first.tests + t) (join second.situations s₁ s₂) ≡ second.holds t s₂

-- In every join of two situations each test holds exactly when it holds in its part.
abbrev pub JoinedTestHoldsInItsPart : VocabularyMeaning → VocabularyMeaning → VocabularyMeaning → Type 0
JoinedTestHoldsInItsPart first second whole =
    (s₁ s₂ : ℕ) → s₁ < first.situations → s₂ < second.situations → HoldsInItsPart first second whole s₁ s₂

-- The situation s joins one situation of each, and no other two.
pub record JoinsOneOfEach (first second : VocabularyMeaning) (s : ℕ) : Type 0 where
  pub part₁ : ℕ
  pub part₂ : ℕ
  pub is_first : part₁ < first.situations
  pub is_second : part₂ < second.situations
  pub joins : s ≡ join second.situations part₁ part₂
  pub alone : (s₁ s₂ : ℕ) → s₁ < first.situations → s₂ < second.situations → s ≡ join second.situations s₁ s₂ → (s₁ ≡ part₁) × (s₂ ≡ part₂)

-- Every situation of the whole joins exactly one situation of each, and every join of two is a situation of the whole.
abbrev pub EachSituationJoinsOneOfEach : VocabularyMeaning → VocabularyMeaning → VocabularyMeaning → Type 0
EachSituationJoinsOneOfEach first second whole =
    ((s : ℕ) → s < whole.situations → JoinsOneOfEach first second s)
    × ((s₁ s₂ : ℕ) → s₁ < first.situations → s₂ < second.situations → join second.situations s₁ s₂ < whole.situations)
