-- What two vocabularies mean side by side.
use Rattle.std.specs.Prelude.{ℕ, ◌+◌, ◌-◌, ◌*◌, ◌/◌, ◌%◌, Bool, cond, ◌&&◌, nat_le, nat_lt}
use Rattle.vocabulary.specs.Meaning.{VocabularyMeaning, asked}

-- With s₂ one of `width` situations, the situation that joins s₁ and s₂.
abbrev pub join : ℕ → ℕ → ℕ → ℕ
join width s₁ s₂ = s₁ * width + s₂

-- The first `firsts` tests are the first's, asked in what s joins of the first; those that follow are the second's, asked
-- in what s joins of the second.
abbrev pub of_either : ℕ → ℕ → (ℕ → ℕ → Bool) → (ℕ → ℕ → Bool) → ℕ → ℕ → Bool
of_either firsts width first second t s = cond (nat_lt t firsts) (first t (s / width)) (second (t - firsts) (s % width))

-- Two vocabularies side by side, with so many situations and tests in all, of which the first has `firsts` tests and the
-- second `width` situations.
abbrev pub beside : ℕ → ℕ → ℕ → ℕ → VocabularyMeaning → VocabularyMeaning → VocabularyMeaning
beside situations tests firsts width first second = record {
  situations = situations;
  tests = tests;
  holds = asked tests situations (of_either firsts width first.holds second.holds);
}

-- A situation for each situation of the first with each of the second, and the tests of the first, followed by those of the second.
abbrev pub joined : VocabularyMeaning → VocabularyMeaning → VocabularyMeaning
joined first second =
    beside (first.situations * second.situations) (first.tests + second.tests) first.tests second.situations first second

-- Two vocabularies may be joined where that makes at most 64 situations and at most 32 tests.
abbrev pub joinable : VocabularyMeaning → VocabularyMeaning → Bool
joinable first second = nat_le (first.situations * second.situations) 64 && nat_le (first.tests + second.tests) 32
