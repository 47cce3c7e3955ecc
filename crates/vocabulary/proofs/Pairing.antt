-- What the making of a pair shows: with the counts of its parts it means the joined vocabulary, which is granted.
use Rattle.std.proofs.Common.{◌≡◌, ℕ, ◌+◌, ◌*◌, ◌≤◌, Ok, Result, sym, ap, ◌∙◌, subst}
use Rattle.std.proofs.lemmas.Bool.{le-leb, and_from}
use Rattle.vocabulary.specs.declared.fault.VocabularyFault.{VocabularyFault}
use Rattle.vocabulary.specs.Meaning.{VocabularyMeaning, Lawful}
use Rattle.vocabulary.specs.Answer.{granted_if}
use Rattle.vocabulary.specs.Joined.{beside, joined}
use Rattle.vocabulary.specs.Pairs.{pair_of}
use Rattle.vocabulary.specs.Joining.{JoinedTestHoldsInItsPart, EachSituationJoinsOneOfEach}
use Rattle.vocabulary.proofs.Joins.{holds_in_part, joins_each}

-- What `new` ensures of a pair that means `whole`.
pub record Paired (first second whole : VocabularyMeaning) : Type 0 where
  pub granted : ◌≡◌ {A = Result VocabularyMeaning VocabularyFault} (Ok whole) (pair_of first second)
  pub in_parts : JoinedTestHoldsInItsPart first second whole
  pub one_of_each : EachSituationJoinsOneOfEach first second whole

-- Two that may be joined are granted as the joined one.
joined_paired : (first second : VocabularyMeaning) → Lawful second → first.situations * second.situations ≤ 64 → first.tests + second.tests ≤ 32 → Paired first second (joined first second)
joined_paired first second l most few = record {
  granted = ap (λ b. granted_if b (joined first second)) (sym (and_from _ _ (le-leb _ 64 most) (le-leb _ 32 few)));
  in_parts = holds_in_part first second;
  one_of_each = joins_each first second l;
}

-- The counts a, w, f and t, asked of the two parts, and the situations n that they have together, make the joined vocabulary.
pub paired : (first second : VocabularyMeaning) (n a w f t : ℕ) → n ≡ a * w → a ≡ first.situations → w ≡ second.situations → f ≡ first.tests → t ≡ second.tests → Lawful second → n ≤ 64 → f + t ≤ 32 → Paired first second (beside n (f + t) f w first second)
paired first second n a w f t en ea ew ef et l most few =
    let all : n ≡ first.situations * second.situations = en ∙ λ i. ea i * ew i in
    let both : f + t ≡ first.tests + second.tests = λ i. ef i + et i in
    let same : joined first second ≡ beside n (f + t) f w first second =
    sym (λ i. beside (all i) (both i) (ef i) (ew i) first second) in
    subst (λ whole. Paired first second whole) same
    (joined_paired first second l (subst (λ n. n ≤ 64) all most) (subst (λ n. n ≤ 32) both few))
