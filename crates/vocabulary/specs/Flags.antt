-- What a number of independent facts means as a vocabulary.
use Rattle.std.specs.Prelude.{ℕ, ◌^◌, ◌≤◌}
use Rattle.std.proofs.Common.{arith, pow_pos, pow_mono}
use Rattle.masks.specs.Bits.{bit}
use Rattle.vocabulary.specs.Meaning.{VocabularyMeaning, Lawful, asked, asked_outside}

-- A situation for each way in which the facts can stand, and a test for each fact: test t holds in s when bit t of s is 1.
abbrev pub flags : ℕ → VocabularyMeaning
flags facts = record {
  situations = 2 ^ facts;
  tests = facts;
  holds = asked facts (2 ^ facts) bit;
}

-- At most six facts make a lawful vocabulary.
pub flags_lawful : (facts : ℕ) → facts ≤ 6 → Lawful (flags facts)
flags_lawful facts h = record {
  some = pow_pos facts;
  most = pow_mono h;
  few = omega arith;
  outside = asked_outside facts (2 ^ facts) bit;
}
