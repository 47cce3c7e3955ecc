-- What a sign that was judged and taken tells: of the state in front of it, and of the state behind it.
use Rattle.std.proofs.Common.{◌≡◌, ℕ, Bool, true, false, not, ◌&&◌, eqb, Some, None, Ok, Err, Option, Result, refl, subst, arith, rules}
use Rattle.std.proofs.lemmas.Bool.{eqb-false, not-false}
use Rattle.signs.specs.Signs.{Mark, closing, repeating, following, choosing, stands_at}
use Rattle.grammar.specs.Reading.{Ahead, sign, over, faulty, Machine, Pulled, is_bracket, fits, opens, take, judge, judged, end_fits, pull}
use Rattle.grammar.specs.Reading.{is_repeating, is_following, is_choosing, is_closing}
use Rattle.grammar.specs.Theorems.{Meaning}
use Rattle.grammar.specs.declared.fault.RuleFault.{RuleFault}
use Rattle.grammar.specs.declared.fault.RuleFault.TheVariants.{TooMany, Unfit, TooDeep}
use Rattle.grammar.proofs.Results.{err_not_ok, ok_same, past_test, some_same, through_test}

-- A sign was taken: it was counted within the limit, fits, opens no level too many, and the state behind it is what `take` says.
pub record Taken (means : Meaning) (levels : ℕ) (x : Mark) (m m' : Machine) : Type 0 where
  pub room : is_bracket x ≡ false → m.signs ≡ 255 → ⊥
  pub fitting : fits m.wants m.brackets x ≡ true
  pub level : opens x ≡ true → levels ≡ 0 → ⊥
  pub taken : take means x m ≡ Ok m'

-- Of two tests that fail together, the first passes.
second_fails : (x y : Bool) → (x && y) ≡ false → x ≡ true → y ≡ false
second_fails true y e h = e
second_fails false y e h = absurd (grind arith)

pub was_taken : (means : Meaning) (levels : ℕ) (x : Mark) (m m' : Machine) → judge means levels x m ≡ Ok m' → Taken means levels x m m'
was_taken means levels x m m' e =
    let p = past_test (not (is_bracket x) && eqb m.signs 255) (TooMany (stands_at x)) _ m' e in
    let q = past_test (not (fits m.wants m.brackets x)) (Unfit (stands_at x)) _ m' p.1 in
    let r = past_test (opens x && eqb levels 0) (TooDeep (stands_at x)) _ m' q.1 in
    record {
      room = λ h. eqb-false m.signs 255 (second_fails (not (is_bracket x)) (eqb m.signs 255) p.0 (rw h));
      fitting = not-false _ q.0;
      level = λ h. eqb-false levels 0 (second_fails (opens x) (eqb levels 0) r.0 h);
      taken = r.1;
    }

none_pulled : {rest : Ahead} {m : Machine} {p : Pulled} {x : Mark} → record { mark = None; ahead = rest; machine = m } ≡ p → p.mark ≡ Some x → ⊥
none_pulled e s = grind arith

-- Where a sign was pulled, it lay ahead and was judged.
abbrev pub JudgedAhead : Meaning → ℕ → Ahead → Machine → Mark → Pulled → Type 0
JudgedAhead means levels rest m x p = (rest ≡ sign x p.ahead) × (judge means levels x m ≡ Ok p.machine)

pub was_pulled : (means : Meaning) (levels : ℕ) (rest : Ahead) (m : Machine) (p : Pulled) (x : Mark)
    → pull means levels rest m ≡ Ok p → p.mark ≡ Some x → JudgedAhead means levels rest m x p
was_pulled means levels (sign y ahead) m p x e s = go (judge means levels y m) refl e
  where
    go : (r : Result Machine RuleFault) → judge means levels y m ≡ r → judged y ahead r ≡ Ok p → JudgedAhead means levels (sign y ahead) m x p
    go (Ok m') j f =
        let q : Pulled = record { mark = Some y; ahead = ahead; machine = m' } in
        subst (λ p. p.mark ≡ Some x → JudgedAhead means levels (sign y ahead) m x p) (ok_same f)
        (λ t. subst (λ z. JudgedAhead means levels (sign y ahead) m z q) (some_same t) (refl, j)) s
    go (Err fault) j f = absurd (err_not_ok f)
was_pulled means levels (over place) m p x e s = absurd (none_pulled (ok_same (through_test (end_fits m) (Unfit place) _ p e).1) s)
was_pulled means levels (faulty fault) m p x e s = absurd (err_not_ok e)

-- What the tests of a sign tell.
pub is_repeating_lem : (next : Option Mark) → is_repeating next ≡ true → (place : ℕ) × (next ≡ Some (repeating place))
is_repeating_lem next e = search rules

pub is_following_lem : (next : Option Mark) → is_following next ≡ true → (place : ℕ) × (next ≡ Some (following place))
is_following_lem next e = search rules

pub is_choosing_lem : (next : Option Mark) → is_choosing next ≡ true → (place : ℕ) × (next ≡ Some (choosing place))
is_choosing_lem next e = search rules

pub is_closing_lem : (next : Option Mark) → is_closing next ≡ true → (place : ℕ) × (next ≡ Some (closing place))
is_closing_lem next e = search rules
