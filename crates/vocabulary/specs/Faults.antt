-- The number, layer and place of the refusal of a vocabulary.
use Rattle.refusals.specs.declared.Layer.TheVariants.{Vocabulary}
use Rattle.refusals.specs.declared.Refusal.{Refusal}
use Rattle.vocabulary.specs.declared.fault.VocabularyFault.{VocabularyFault}
use Rattle.vocabulary.specs.declared.fault.VocabularyFault.TheVariants.{BeyondLimits}

-- A vocabulary beyond the limits is number 1 of the layer of vocabularies, at place 0.
abbrev pub refusal_of : VocabularyFault → Refusal
refusal_of BeyondLimits = record { layer = Vocabulary; number = 1; place = 0 }
