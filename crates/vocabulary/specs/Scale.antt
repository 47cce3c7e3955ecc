-- What a number of stages means as a vocabulary.
use Rattle.std.specs.Prelude.{ℕ, ◌-◌, ◌≤◌, Bool, nat_lt}
use Rattle.std.proofs.Common.{arith}
use Rattle.vocabulary.specs.Meaning.{VocabularyMeaning, Lawful, asked, asked_outside}

-- Stage s lies past the mark t.
abbrev pub past : ℕ → ℕ → Bool
past t s = nat_lt t s

-- A situation for each stage, and a test for each mark between two of them: test t holds in s when s > t.
abbrev pub scale : ℕ → VocabularyMeaning
scale stages = record {
  situations = stages;
  tests = stages - 1;
  holds = asked (stages - 1) stages past;
}

-- From 1 to 33 stages make a lawful vocabulary.
pub scale_lawful : (stages : ℕ) → 1 ≤ stages → stages ≤ 33 → Lawful (scale stages)
scale_lawful stages some most = record {
  some = some;
  most = omega arith;
  few = omega arith;
  outside = asked_outside (stages - 1) stages past;
}
