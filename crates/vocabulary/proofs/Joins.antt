-- The two theorems of a pair: a joined test holds in its part, and each situation joins one of each.
use Rattle.std.proofs.Common.{◌≡◌, ℕ, ◌+◌, ◌-◌, ◌/◌, ◌%◌, ◌<◌, ◌≤◌, sym, ap, ◌∙◌, arith}
use Rattle.std.proofs.lemmas.Nat.{mul-add-lt, div-mul-add, mod-mul-add, div_below, mod_below, div-add-mod'}
use Rattle.std.proofs.lemmas.Bool.{lt-ltb, le-ltb, cond-true, cond-false}
use Rattle.vocabulary.specs.Meaning.{VocabularyMeaning, Lawful}
use Rattle.vocabulary.specs.Joined.{join, joined, of_either}
use Rattle.vocabulary.specs.Joining.{JoinsOneOfEach, JoinedTestHoldsInItsPart, EachSituationJoinsOneOfEach}
use Rattle.vocabulary.proofs.Asked.{asked_inside}

-- A join of two situations is one of the whole.
join_below : (first second : VocabularyMeaning) (s₁ s₂ : ℕ) → s₁ < first.situations → s₂ < second.situations → join second.situations s₁ s₂ < (joined first second).situations
join_below first second s₁ s₂ h k = omega (arith, mul-add-lt s₁ second.situations s₂ first.situations h k)

-- The part of a join in the first is its quotient by the second's situations, and the part in the second is the rest.
pub holds_in_part : (first second : VocabularyMeaning) → JoinedTestHoldsInItsPart first second (joined first second)
holds_in_part first second s₁ s₂ h k = record {
  of_first = λ t lt.
      asked_inside _ _ (of_either first.tests second.situations first.holds second.holds) t (join second.situations s₁ s₂) (omega arith) (join_below first second s₁ s₂ h k)
      ∙ cond-true _ _ _ (lt-ltb t first.tests lt)
      ∙ ap (first.holds t) (div-mul-add s₁ second.situations s₂ k);
  of_second = λ t lt.
      let back : (first.tests + t) - first.tests ≡ t = omega arith in
      let past : first.tests ≤ first.tests + t = omega arith in
      asked_inside _ _ (of_either first.tests second.situations first.holds second.holds) (first.tests + t) (join second.situations s₁ s₂) (omega arith) (join_below first second s₁ s₂ h k)
      ∙ cond-false _ _ _ (le-ltb (first.tests + t) first.tests past)
      ∙ ap (λ u. second.holds u (join second.situations s₁ s₂ % second.situations)) back
      ∙ ap (second.holds t) (mod-mul-add s₁ second.situations s₂ k);
}

-- A quotient and its rest are the one pair that a situation joins.
joins_one : (first second : VocabularyMeaning) → Lawful second → (s : ℕ) → s < (joined first second).situations → JoinsOneOfEach first second s
joins_one first second l s h = record {
  part₁ = s / second.situations;
  part₂ = s % second.situations;
  is_first = div_below s second.situations first.situations l.some h;
  is_second = mod_below s second.situations l.some;
  joins = sym (div-add-mod' s second.situations);
  alone = λ s₁ s₂ h₁ h₂ e. (
    sym (div-mul-add s₁ second.situations s₂ h₂) ∙ ap (λ n. n / second.situations) (sym e),
    sym (mod-mul-add s₁ second.situations s₂ h₂) ∙ ap (λ n. n % second.situations) (sym e),
  );
}

-- Situations of the whole are joins, and joins are situations of the whole.
pub joins_each : (first second : VocabularyMeaning) → Lawful second → EachSituationJoinsOneOfEach first second (joined first second)
joins_each first second l = (joins_one first second l, join_below first second)
