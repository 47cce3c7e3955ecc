-- What one call of the reader's `next` comes to, over plain values.
use Rattle.std.proofs.Common.{◌≡◌, ℕ, ◌+◌, ◌-◌, ◌<◌, ◌≤◌, false, List, [], length, drop, Some, None, Ok, Err, Result, sym, ap, ◌∙◌, subst, arith, length-drop}
use Rattle.std.proofs.lemmas.List.{drop-drop}
use Rattle.signs.specs.declared.fault.SignFault.{SignFault}
use Rattle.signs.specs.declared.sign.Sign.{Sign}
use Rattle.signs.specs.Signs.{Mark, behind, next_sign, and_then, signs_from}
use Rattle.signs.specs.Reader.{mark_of, marked_pair, with_behind}
use Rattle.signs.proofs.Steps.{Steps, steps}

ok_same : {A B : Type 0} {x y : A} → ◌≡◌ {A = Result A B} (Ok x) (Ok y) → x ≡ y
ok_same h = cc

err_same : {A B : Type 0} {x y : B} → ◌≡◌ {A = Result A B} (Err x) (Err y) → x ≡ y
err_same h = cc

ok_no_err : {A B : Type 0} {x : A} {y : B} → ◌≡◌ {A = Result A B} (Ok x) (Err y) → ⊥
ok_no_err h = let z : ◌≡◌ {A = ℕ} 0 1 = cc in omega arith

-- a sign that the code found, with the place behind it, is the sign of the definition
pub tells_sign : (r : Result (Sign × ℕ) SignFault) (x : Result Mark SignFault) (pair : Sign × ℕ) → r ≡ Ok pair → marked_pair r ≡ with_behind x → (x ≡ Ok (mark_of pair.0)) × (pair.1 ≡ behind (mark_of pair.0))
tells_sign r (Ok m) pair e h =
    let same : (mark_of pair.0, pair.1) ≡ (m, behind m) = ok_same (sym (ap marked_pair e) ∙ h) in
    let mark : mark_of pair.0 ≡ m = ap (λ p. p.0) same in
    (ap Ok (sym mark), ap (λ p. p.1) same ∙ ap behind (sym mark))
tells_sign r (Err f) pair e h = absurd (ok_no_err (sym (ap marked_pair e) ∙ h))

pub tells_fault : (r : Result (Sign × ℕ) SignFault) (x : Result Mark SignFault) (fault : SignFault) → r ≡ Err fault → marked_pair r ≡ with_behind x → x ≡ Err fault
tells_fault r (Ok m) fault e h = absurd (ok_no_err (sym h ∙ ap marked_pair e))
tells_fault r (Err f) fault e h = ap Err (err_same (sym h ∙ ap marked_pair e))

-- the end, a fault and a sign against the list of the signs ahead
module _ (text : List ℕ) (from : ℕ) where
  pub at_the_end : next_sign from (drop from text) ≡ Ok None → signs_from false from (drop from text) ≡ Ok []
  at_the_end h = subst (Steps from (drop from text)) h (steps from (drop from text))

  pub at_a_fault : (fault : SignFault) → next_sign from (drop from text) ≡ Err fault → signs_from false from (drop from text) ≡ Err fault
  at_a_fault fault h = subst (Steps from (drop from text)) h (steps from (drop from text))

  pub at_a_sign : (m : Mark) → next_sign from (drop from text) ≡ Ok (Some m)
      → (from < behind m) × (behind m ≤ length text) × (and_then (Ok m) (signs_from false (behind m) (drop (behind m) text)) ≡ signs_from false from (drop from text))
  at_a_sign m h =
      let s : Steps from (drop from text) (Ok (Some m)) = subst (Steps from (drop from text)) h (steps from (drop from text)) in
      let there : from + (behind m - from) ≡ behind m = omega (arith, s.1) in
      let rest : drop (behind m - from) (drop from text) ≡ drop (behind m) text = drop-drop (behind m - from) from text ∙ ap (λ n. drop n text) there in
      (s.1, omega (arith, s.1, s.2, length-drop from text), ap (λ bs. and_then (Ok m) (signs_from false (behind m) bs)) (sym rest) ∙ sym s.0)
