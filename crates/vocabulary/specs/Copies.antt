-- What a copy of a vocabulary means.
use Rattle.vocabulary.specs.declared.copied.Copied.{Copied}
use Rattle.vocabulary.specs.Meaning.{VocabularyMeaning, Lawful, asked_outside}
use Rattle.vocabulary.specs.Written.{written, noted}

-- A copy means what is written in it.
abbrev pub copied_meaning : Copied → VocabularyMeaning
copied_meaning c = written c.size.situations c.size.tests c.masks

-- Its counts are within the limits, and a question out of range is answered no.
pub copied_lawful : (c : Copied) → Lawful (copied_meaning c)
copied_lawful c = record {
  some = c.size.some;
  most = c.size.most;
  few = c.size.few;
  outside = asked_outside c.size.tests c.size.situations (noted c.masks);
}
