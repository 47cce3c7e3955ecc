-- A text is granted exactly when its signs are a rule: what lies ahead of its first byte is its signs, and then the end or
-- a fault. Serves `read_rule`.
use Rattle.std.proofs.Common.{◌≡◌, ℕ, zero, suc, ◌+◌, ◌-◌, ◌≤◌, Bool, true, false, cond, ltb, List, [], ◌∷◌, length, drop, Some, None, Ok, Err, Option, Result, sym, refl, ap, ◌∙◌, subst, arith}
use Rattle.std.proofs.lemmas.List.{drop_all, drop-drop}
use Rattle.std.proofs.lemmas.Bool.{cond-false, ltb-false, ltb-true}
use Rattle.sheet.specs.declared.named.Named.{Named}
use Rattle.signs.specs.Signs.{Mark, and_then, behind, next_sign, signs_from, signs_of}
use Rattle.signs.specs.declared.fault.SignFault.{SignFault}
use Rattle.signs.specs.declared.fault.SignFault.TheVariants.{TextTooLong}
use Rattle.signs.proofs.Steps.{Steps, steps}
use Rattle.signs.proofs.Theorems.{read_within, refused_beyond}
use Rattle.kat.specs.Terms.{Term}
use Rattle.grammar.specs.Derivations.{Rule}
use Rattle.grammar.specs.Reading.{Ahead, faulty, over, read_ahead, sign}
use Rattle.grammar.specs.Theorems.{infront}
use Rattle.grammar.specs.declared.fault.RuleFault.TheVariants.{Sign}
use Rattle.grammar.proofs.Granted.{fault_never_granted, granted_is_a_rule}
use Rattle.grammar.proofs.Results.{err_not_ok}
use Rattle.grammar.proofs.Rules.{one_term, rule_is_granted}
use Rattle.rules.specs.Aheads.{ahead_in, ahead_to, then_ahead}
use Rattle.rules.specs.Granted.{GrantedExactlyForRules}
use Rattle.rules.specs.Rules.{read_text}

-- what lies ahead is these signs, or some signs and then the fault
abbrev Lies : ℕ → Ahead → Result (List Mark) SignFault → Type 0
Lies end ahead (Ok ms) = ahead ≡ infront ms (over end)
Lies end ahead (Err fault) = (ms : List Mark) × (ahead ≡ infront ms (faulty fault))

lies_more : (end : ℕ) (m : Mark) (ahead : Ahead) (r : Result (List Mark) SignFault) → Lies end ahead r → Lies end (sign m ahead) (and_then (Ok m) r)
lies_more end m ahead (Ok ms) h = ap (sign m) h
lies_more end m ahead (Err fault) h = (m ∷ h.0, ap (sign m) h.1)

lies : (end : ℕ) (text : List ℕ) (fuel place : ℕ) → length text - place ≤ fuel → Lies end (ahead_to end fuel text place) (signs_from false place (drop place text))
lies end text zero place le =
    subst (λ bs. Lies end (over end) (signs_from false place bs)) (sym (drop_all place text (omega arith))) refl
lies end text (suc fuel) place le = go (next_sign place (drop place text)) (steps place (drop place text)) (lies end text fuel)
  where
    go : (r : Result (Option Mark) SignFault) → Steps place (drop place text) r
        → ((p : ℕ) → length text - p ≤ fuel → Lies end (ahead_to end fuel text p) (signs_from false p (drop p text)))
        → Lies end (then_ahead end (ahead_to end fuel text) r) (signs_from false place (drop place text))
    go (Ok None) s ih = subst (Lies end (over end)) (sym s) refl
    go (Ok (Some m)) s ih =
        let on = s.1 in
        let there : place + (behind m - place) ≡ behind m = omega arith in
        let left : drop (behind m - place) (drop place text) ≡ drop (behind m) text = drop-drop (behind m - place) place text ∙ ap (λ n. drop n text) there in
        subst (Lies end (sign m (ahead_to end fuel text (behind m)))) (sym (s.0 ∙ ap (λ bs. and_then (Ok m) (signs_from false (behind m) bs)) left))
        (lies_more end m (ahead_to end fuel text (behind m)) (signs_from false (behind m) (drop (behind m) text)) (ih (behind m) (omega arith)))
    go (Err fault) s ih = subst (Lies end (faulty fault)) (sym s) ([], refl)

whole_lies : (text : List ℕ) → Lies (length text) (ahead_in text) (signs_from false 0 text)
whole_lies text = lies (length text) text (length text) 0 (omega arith)

module _ (means : List ℕ → Option Named) (text : List ℕ) where
  from_signs : (r : Result (List Mark) SignFault) → signs_from false 0 text ≡ r → length text ≤ 4096 → (e : Term) → read_ahead means (ahead_in text) ≡ Ok e
      → (signs : List Mark) × (signs_of text ≡ Ok signs) × Rule means signs e
  from_signs (Ok ms) is few e h =
      let ahead : ahead_in text ≡ infront ms (over (length text)) = subst (Lies (length text) (ahead_in text)) is (whole_lies text) in
      (ms, read_within text few ∙ is, granted_is_a_rule means ms (length text) e (ap (read_ahead means) (sym ahead) ∙ h))
  from_signs (Err fault) is few e h =
      let ahead = subst (Lies (length text) (ahead_in text)) is (whole_lies text) in
      absurd (fault_never_granted means ahead.0 fault e (ap (read_ahead means) (sym ahead.1) ∙ h))

  sound : (long : Bool) → ltb 4096 (length text) ≡ long → (e : Term) → cond long (Err (Sign TextTooLong)) (read_ahead means (ahead_in text)) ≡ Ok e
      → (signs : List Mark) × (signs_of text ≡ Ok signs) × Rule means signs e
  sound true is e h = absurd (err_not_ok h)
  sound false is e h = from_signs (signs_from false 0 text) refl (ltb-false 4096 (length text) is) e h

  complete : (long : Bool) → ltb 4096 (length text) ≡ long → (signs : List Mark) (e : Term) → signs_of text ≡ Ok signs → Rule means signs e → read_text means text ≡ Ok e
  complete true is signs e h rule = absurd (err_not_ok (sym (refused_beyond text (ltb-true 4096 (length text) is)) ∙ h))
  complete false is signs e h rule =
      let few = ltb-false 4096 (length text) is in
      let read = sym (read_within text few) ∙ h in
      let ahead : ahead_in text ≡ infront signs (over (length text)) = subst (Lies (length text) (ahead_in text)) read (whole_lies text) in
      cond-false _ _ _ is ∙ ap (read_ahead means) ahead ∙ rule_is_granted means signs (length text) e rule

  pub granted_exactly : GrantedExactlyForRules means text
  granted_exactly = record {
    granted_is_a_rule = λ e h. sound (ltb 4096 (length text)) refl e h;
    rule_is_granted = λ signs e h rule. complete (ltb 4096 (length text)) refl signs e h rule;
    one_term = λ signs e f a b. (one_term means 32 32 0 a.actions b.actions signs e f a.derived b.derived).0;
  }
