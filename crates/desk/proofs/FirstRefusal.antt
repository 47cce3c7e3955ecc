-- A refused vocabulary stays refused.
use Rattle.std.proofs.Common.{◌≡◌, refl, ℕ, ◌+◌, ◌<◌, List, [], ◌∷◌, Err, Result, length, get_or, drop, ap, ◌∙◌}
use Rattle.std.proofs.lemmas.List.{at_drop_more}
use Rattle.vocabulary.specs.Meaning.{VocabularyMeaning}
use Rattle.vocabulary.specs.declared.fault.VocabularyFault.{VocabularyFault}
use Rattle.script.specs.declared.command.Part.{Part}
use Rattle.desk.specs.Joining.{join_all, join_to, make_of}

-- Parts behind a refusal change nothing.
pub refusal_stays : (fault : VocabularyFault) → (parts : List Part) → join_all (Err fault) parts ≡ Err fault
refusal_stays fault [] = refl
refusal_stays fault (part ∷ parts) = refusal_stays fault parts

-- The refusal of one part is that of all that are left.
pub refused_at : (all : Result VocabularyMeaning VocabularyFault) → (parts : List Part) (i : ℕ) (other : Part) (fault : VocabularyFault)
    → i < length parts → join_to all (make_of (get_or parts i other)) ≡ Err fault → join_all all (drop i parts) ≡ Err fault
refused_at all parts i other fault inside refused =
    at_drop_more (join_all all) parts i other inside
    ∙ ap (λ joined. join_all joined (drop (i + 1) parts)) refused
    ∙ refusal_stays fault (drop (i + 1) parts)
