-- The mask of a test: the set of situations in which it holds, as a number with a bit for each.
use Rattle.std.specs.Prelude.{ℕ}
use Rattle.masks.specs.Bits.{bits_below}
use Rattle.vocabulary.specs.Meaning.{VocabularyMeaning}

-- Bit s is 1 exactly when the test holds in situation s. A test out of range holds nowhere, so its mask is 0.
abbrev pub mask_of : VocabularyMeaning → ℕ → ℕ
mask_of m t = bits_below (m.holds t) m.situations
