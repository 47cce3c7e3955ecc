-- What a constructor of a vocabulary answers, seen by meanings.
use Rattle.std.specs.Prelude.{Bool, true, false, Ok, Err, Result}
use Rattle.vocabulary.specs.declared.fault.VocabularyFault.{VocabularyFault}
use Rattle.vocabulary.specs.declared.fault.VocabularyFault.TheVariants.{BeyondLimits}
use Rattle.vocabulary.specs.Meaning.{VocabularyMeaning}

-- An answer with the vocabulary in it replaced by what it means.
abbrev pub meant : {V : Type 0} → (V → VocabularyMeaning) → Result V VocabularyFault → Result VocabularyMeaning VocabularyFault
meant meaning (Ok v) = Ok (meaning v)
meant meaning (Err e) = Err e

-- Within the limits a meaning is granted, beyond them it is refused.
abbrev pub granted_if : Bool → VocabularyMeaning → Result VocabularyMeaning VocabularyFault
granted_if true m = Ok m
granted_if false m = Err BeyondLimits
