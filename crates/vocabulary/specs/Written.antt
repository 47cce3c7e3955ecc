-- What a vocabulary that is written down as masks means.
use Rattle.std.specs.Prelude.{ℕ, Bool, List, slice_index}
use Rattle.masks.specs.Bits.{bit}
use Rattle.vocabulary.specs.Meaning.{VocabularyMeaning, asked}

-- Bit s of the mask at t is 1.
abbrev pub noted : List ℕ → ℕ → ℕ → Bool
noted masks t s = bit s (slice_index masks t)

-- So many situations and tests, with a mask for each test: test t holds in s when bit s of the mask at t is 1.
abbrev pub written : ℕ → ℕ → List ℕ → VocabularyMeaning
written situations tests masks = record {
  situations = situations;
  tests = tests;
  holds = asked tests situations (noted masks);
}
