-- The first flow with a mark has this mark, and the free mark is one that no flow has.
use Rattle.std.proofs.Common.{◌≡◌, ℕ, zero, suc, ◌+◌, ◌<◌, ◌≤◌, Bool, true, false, cond, eqb, ltb, List, [], ◌∷◌, length, sym, refl, ap, ◌∙◌, subst, ⊎_elim, arith}
use Rattle.std.proofs.lemmas.Bool.{both_ways, cases_Bool, cases_eq, cond_both, cond-false, cond-true, eq-eqb, eqb-true, le-ltb, lt-ltb, ltb-true, or_cases, or_left, or_right}
use Rattle.ledger.specs.Ledgers.{Filed, first_marked, free_from, free_mark, has_mark}
use Rattle.ledger.proofs.Positions.{At}

-- A flow with the mark stands at the position.
abbrev pub MarkedAt : List Filed → ℕ → ℕ → Type 0
MarkedAt filed mark position = (g : Filed) × At filed position g × (g.mark ≡ mark)

-- The first flow has the mark, or the first of the later flows with it stands one further.
marked_behind : (h : Filed) (filed : List Filed) (mark : ℕ) (its : Bool) → eqb h.mark mark ≡ its
    → (eqb h.mark mark ≡ false → MarkedAt filed mark (first_marked filed mark)) → MarkedAt (h ∷ filed) mark (cond its 0 (suc (first_marked filed mark)))
marked_behind h filed mark true is later = (h, refl, eqb-true h.mark mark is)
marked_behind h filed mark false is later = later is

-- Where some flow has a mark, the first flow with it does.
pub first_has_mark : (filed : List Filed) (i : ℕ) (f : Filed) (mark : ℕ) → At filed i f → f.mark ≡ mark → MarkedAt filed mark (first_marked filed mark)
first_has_mark [] i f mark p is = absurd p
first_has_mark (h ∷ filed) zero f mark p is =
    marked_behind h filed mark (eqb h.mark mark) refl
    (λ no. absurd (both_ways (eqb h.mark mark) no (eq-eqb h.mark mark (ap (λ (x : Filed). x.mark) p ∙ is))))
first_has_mark (h ∷ filed) (suc i) f mark p is = marked_behind h filed mark (eqb h.mark mark) refl (λ no. first_has_mark filed i f mark p is)

-- The mark of a flow is one that some flow has.
pub mark_is_had : (filed : List Filed) (i : ℕ) (f : Filed) → At filed i f → has_mark filed f.mark ≡ true
mark_is_had [] i f p = absurd p
mark_is_had (h ∷ filed) zero f p = or_left _ _ (eq-eqb h.mark f.mark (ap (λ (x : Filed). x.mark) p))
mark_is_had (h ∷ filed) (suc i) f p = or_right _ _ (mark_is_had filed i f p)

-- How many flows have a mark below a number.
abbrev below : List Filed → ℕ → ℕ
below [] n = 0
below (f ∷ filed) n = cond (ltb f.mark n) (suc (below filed n)) (below filed n)

-- These are at most all flows.
below_few : (filed : List Filed) (n : ℕ) → below filed n ≤ length filed
below_few [] n = omega arith
below_few (f ∷ filed) n =
    let few = below_few filed n in
    cond_both (ltb f.mark n) (suc (below filed n)) (below filed n) (λ x. x ≤ length (f ∷ filed)) (λ e. omega arith) (λ e. omega arith)

-- One flow more on both sides of a comparison, or on the larger side alone.
one_more : (here there : Bool) (x y d : ℕ) → (here ≡ true → there ≡ true) → x + d ≤ y → cond here (suc x) x + d ≤ cond there (suc y) y
one_more true true x y d h le = omega arith
one_more true false x y d h le = absurd (both_ways false refl (h refl))
one_more false true x y d h le = omega arith
one_more false false x y d h le = omega arith

-- What is below a number is below the next.
below_next : (mark n : ℕ) → ltb mark n ≡ true → ltb mark (suc n) ≡ true
below_next mark n h = let less = ltb-true mark n h in lt-ltb mark (suc n) (omega arith)

-- Below the next number there are no fewer flows,
below_grows : (filed : List Filed) (n : ℕ) → below filed n + 0 ≤ below filed (suc n)
below_grows [] n = omega arith
below_grows (f ∷ filed) n =
    one_more (ltb f.mark n) (ltb f.mark (suc n)) (below filed n) (below filed (suc n)) 0 (below_next f.mark n) (below_grows filed n)

-- and one more at least where a flow has the number as its mark.
below_gains : (filed : List Filed) (n : ℕ) → has_mark filed n ≡ true → below filed n + 1 ≤ below filed (suc n)
below_gains [] n h = absurd (both_ways false refl h)
below_gains (f ∷ filed) n h =
    ⊎_elim
    (λ (its : eqb f.mark n ≡ true).
    let is : f.mark ≡ n = eqb-true f.mark n its in
    let less = cond-false (ltb f.mark n) (suc (below filed n)) (below filed n) (le-ltb f.mark n (omega arith)) in
    let more = cond-true (ltb f.mark (suc n)) (suc (below filed (suc n))) (below filed (suc n)) (lt-ltb f.mark (suc n) (omega arith)) in
    let grows = below_grows filed n in
    omega arith)
    (λ (later : has_mark filed n ≡ true).
    one_more (ltb f.mark n) (ltb f.mark (suc n)) (below filed n) (below filed (suc n)) 1 (below_next f.mark n) (below_gains filed n later))
    (or_cases (eqb f.mark n) (has_mark filed n) h)

-- Where all marks below a number are had, there are as many flows.
below_all : (filed : List Filed) (n : ℕ) → ((mark : ℕ) → mark < n → has_mark filed mark ≡ true) → n ≤ below filed n
below_all filed zero had = omega arith
below_all filed (suc n) had =
    let less = below_all filed n (λ mark h. had mark (omega arith)) in
    let more = below_gains filed n (had n (omega arith)) in
    omega arith

-- Where the mark that the tries end at is had, all tried ones are.
tried_are_had : (filed : List Filed) (tries first : ℕ) → has_mark filed (free_from filed tries first) ≡ true
    → (mark : ℕ) → first ≤ mark → mark ≤ first + tries → has_mark filed mark ≡ true
tried_are_had filed zero first had mark low high = let same : first ≡ mark = omega arith in subst (λ m. has_mark filed m ≡ true) same had
tried_are_had filed (suc tries) first had mark low high =
    ⊎_elim
    (λ (yes : has_mark filed first ≡ true).
    let on = ap (has_mark filed) (cond-true (has_mark filed first) (free_from filed tries (suc first)) first yes) in
    ⊎_elim
    (λ (same : first ≡ mark). subst (λ m. has_mark filed m ≡ true) same yes)
    (λ (other : first ≡ mark → ⊥).
    tried_are_had filed tries (suc first) (sym on ∙ had) mark (omega arith) (omega arith))
    (cases_eq first mark))
    (λ (no : has_mark filed first ≡ false).
    let off = ap (has_mark filed) (cond-false (has_mark filed first) (free_from filed tries (suc first)) first no) in
    absurd (both_ways (has_mark filed first) no (sym off ∙ had)))
    (cases_Bool (has_mark filed first))

-- No flow has the free mark: else there were more marks than flows.
pub free_is_free : (filed : List Filed) → has_mark filed (free_mark filed) ≡ false
free_is_free filed =
    ⊎_elim
    (λ (had : has_mark filed (free_mark filed) ≡ true).
    let all = below_all filed (suc (length filed)) (λ mark h. tried_are_had filed (length filed) 0 had mark (omega arith) (omega arith)) in
    let few = below_few filed (suc (length filed)) in
    absurd (omega arith))
    (λ (free : has_mark filed (free_mark filed) ≡ false). free)
    (cases_Bool (has_mark filed (free_mark filed)))
