-- What a pair means by the counts that it holds, and what the making of one answers.
use Rattle.std.specs.Prelude.{Result}
use Rattle.vocabulary.specs.declared.fault.VocabularyFault.{VocabularyFault}
use Rattle.vocabulary.specs.declared.pair.Pair.{Pair}
use Rattle.vocabulary.specs.Meaning.{VocabularyMeaning, Lawful, asked_outside}
use Rattle.vocabulary.specs.Answer.{granted_if}
use Rattle.vocabulary.specs.Joined.{beside, joinable, joined, of_either}

-- A pair means its two parts side by side, with the counts that it holds: those of its parts, as `pair_of` says of every pair that is made.
abbrev pub pair_meaning : {V W : Type 0} → (V → VocabularyMeaning) → (W → VocabularyMeaning) → Pair V W → VocabularyMeaning
pair_meaning first second p = beside p.size.situations p.size.tests p.firsts p.width (first p.first) (second p.second)

-- Its counts in all are within the limits, and a question out of range is answered no.
pub pair_lawful : {V W : Type 0} (first : V → VocabularyMeaning) (second : W → VocabularyMeaning) (p : Pair V W) → Lawful (pair_meaning first second p)
pair_lawful first second p = record {
  some = p.size.some;
  most = p.size.most;
  few = p.size.few;
  outside = asked_outside p.size.tests p.size.situations (of_either p.firsts p.width (first p.first).holds (second p.second).holds);
}

-- Two vocabularies that may be joined are granted as the joined one, and any other two are refused.
abbrev pub pair_of : VocabularyMeaning → VocabularyMeaning → Result VocabularyMeaning VocabularyFault
pair_of first second = granted_if (joinable first second) (joined first second)

-- A statement about three meanings, said of two vocabularies and a pair.
abbrev pub said_of : {V W : Type 0} → (VocabularyMeaning → VocabularyMeaning → VocabularyMeaning → Type 0) → (V → VocabularyMeaning) → (W → VocabularyMeaning) → V → W → Pair V W → Type 0
said_of statement first second v w p = statement (first v) (second w) (pair_meaning first second p)
