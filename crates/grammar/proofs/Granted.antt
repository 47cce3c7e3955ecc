-- What is granted is a rule, and read to its end.
use Rattle.std.proofs.Common.{◌≡◌, ℕ, ◌+◌, ◌*◌, true, false, List, [], ◌∷◌, Some, Ok, Err, Result, sym, refl, ap, ◌∙◌, subst, arith}
use Rattle.signs.specs.Signs.{Mark}
use Rattle.signs.specs.declared.fault.SignFault.{SignFault}
use Rattle.kat.specs.Terms.{Term}
use Rattle.grammar.specs.Derivations.{Rule}
use Rattle.grammar.specs.Reading.{Ahead, Grown, Machine, choice_from, faulty, follows, fresh, judge, judged, over, pull, read_ahead, sign, signs_left, term_of}
use Rattle.grammar.specs.Theorems.{Meaning, FaultNeverGranted, GrantedIsARule, ahead_of, choice_goes_on, infront, past, pulled_behind}
use Rattle.grammar.specs.declared.fault.RuleFault.{RuleFault}
use Rattle.grammar.proofs.Judging.{was_taken}
use Rattle.grammar.proofs.Results.{err_not_ok, from_grown, ok_same}
use Rattle.grammar.proofs.Sound.{builders_sound}

-- With no bracket open, each sign that can follow a unit goes on with a choice.
none_ends : (x : Mark) → follows 0 x ≡ true → choice_goes_on (Some x) ≡ false → ⊥
none_ends x e f = grind arith

-- So a whole choice has the end behind it.
end_behind : (means : Meaning) (levels : ℕ) (rest : Ahead) (read : List Mark) (after : ℕ) (g : Grown)
    → pull means levels rest (past fresh read after) ≡ Ok (pulled_behind g) → choice_goes_on g.next ≡ false → (place : ℕ) × (rest ≡ over place)
end_behind means levels (sign x ahead) read after g e f = go (judge means levels x (past fresh read after)) refl e
  where
    go : (r : Result Machine RuleFault) → judge means levels x (past fresh read after) ≡ r
        → judged x ahead r ≡ Ok (pulled_behind g) → (place : ℕ) × (sign x ahead ≡ over place)
    go (Ok m') j e =
        let same : g.next ≡ Some x = ap (λ p. p.mark) (sym (ok_same e)) in
        absurd (none_ends x (was_taken means levels x (past fresh read after) m' j).fitting (rw same at f))
    go (Err fault) j e = absurd (err_not_ok e)
end_behind means levels (over place) read after g e f = (place, refl)
end_behind means levels (faulty fault) read after g e f = absurd (err_not_ok e)

same_signs : (xs ys : List Mark) (p q : ℕ) → infront xs (over p) ≡ infront ys (over q) → xs ≡ ys
same_signs [] [] p q e = refl
same_signs [] (y ∷ ys) p q e = absurd (grind arith)
same_signs (x ∷ xs) [] p q e = absurd (grind arith)
same_signs (x ∷ xs) (y ∷ ys) p q e =
    let heads : x ≡ y = cc in
    let tails : infront xs (over p) ≡ infront ys (over q) = cc in
    let same = same_signs xs ys p q tails in
    cc

no_end : (xs ys : List Mark) (fault : SignFault) (q : ℕ) → infront xs (faulty fault) ≡ infront ys (over q) → ⊥
no_end [] [] fault q e = grind arith
no_end [] (y ∷ ys) fault q e = grind arith
no_end (x ∷ xs) [] fault q e = grind arith
no_end (x ∷ xs) (y ∷ ys) fault q e =
    let tails : infront xs (faulty fault) ≡ infront ys (over q) = cc in
    no_end xs ys fault q tails

-- What was granted was a choice of all the signs, and then the end.
whole_granted : (means : Meaning) (ahead : Ahead) (e : Term)
    → read_ahead means ahead ≡ Ok e → (signs : List Mark) × (place : ℕ) × (ahead ≡ ahead_of signs place) × Rule means signs e
whole_granted means ahead e f =
    let fuel = signs_left ahead * 4 + 4 in
    let p = from_grown (choice_from fuel means 32 ahead fresh) term_of e f in
    let r = (builders_sound fuel means 32).choices ahead fresh p.0 p.1 in
    let w = end_behind means 32 r.rest r.read r.after p.0 r.next_judged r.ended in
    let short = r.few_signs (omega arith) in
    let rule : Rule means r.read p.0.term = record { actions = r.after; derived = r.derived; few_actions = r.few_actions (omega arith); few_signs = omega (arith, short) } in
    (r.read, w.0, r.consumed ∙ ap (infront r.read) w.1, subst (Rule means r.read) (ok_same p.2) rule)

pub granted_is_a_rule : GrantedIsARule
granted_is_a_rule means signs place e f =
    let w = whole_granted means (ahead_of signs place) e f in
    subst (λ xs. Rule means xs e) (sym (same_signs signs w.0 place w.1 w.2)) w.3

pub fault_never_granted : FaultNeverGranted
fault_never_granted means signs fault e f =
    let w = whole_granted means (infront signs (faulty fault)) e f in
    no_end signs w.0 fault w.1 w.2
