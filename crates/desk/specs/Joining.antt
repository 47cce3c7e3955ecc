-- What the parts of a vocabulary make, by their meanings.
use Rattle.std.specs.Prelude.{◌&&◌, List, [], ◌∷◌, Ok, Err, Result, nat_le}
use Rattle.vocabulary.specs.Answer.{granted_if}
use Rattle.vocabulary.specs.Flags.{flags}
use Rattle.vocabulary.specs.Meaning.{VocabularyMeaning}
use Rattle.vocabulary.specs.Pairs.{pair_of}
use Rattle.vocabulary.specs.Scale.{scale}
use Rattle.vocabulary.specs.declared.fault.VocabularyFault.{VocabularyFault}
use Rattle.vocabulary.specs.declared.fault.VocabularyFault.TheVariants.{BeyondLimits}
use Rattle.script.specs.declared.command.Part.{Part}
use Rattle.script.specs.declared.command.Part.TheVariants.{Flags, Scale}

-- One part: flags of 0 to 6 facts, or a scale of 1 to 33 stages.
abbrev pub make_of : Part → Result VocabularyMeaning VocabularyFault
make_of (Flags facts) = granted_if (nat_le facts 6) (flags facts)
make_of (Scale stages) = granted_if (nat_le 1 stages && nat_le stages 33) (scale stages)

-- A further part joins what there is to a pair, unless one of the two was refused.
abbrev pub join_to : Result VocabularyMeaning VocabularyFault → Result VocabularyMeaning VocabularyFault → Result VocabularyMeaning VocabularyFault
join_to (Ok first) (Ok second) = pair_of first second
join_to (Ok first) (Err fault) = Err fault
join_to (Err fault) second = Err fault

-- Further parts, one after the other.
abbrev pub join_all : Result VocabularyMeaning VocabularyFault → List Part → Result VocabularyMeaning VocabularyFault
join_all all [] = all
join_all all (part ∷ parts) = join_all (join_to all (make_of part)) parts

-- All parts. No parts make no vocabulary.
abbrev pub vocabulary_of : List Part → Result VocabularyMeaning VocabularyFault
vocabulary_of [] = Err BeyondLimits
vocabulary_of (part ∷ parts) = join_all (make_of part) parts
