-- The faults of a text, byte by byte from the left, against the list of its signs. Serves the theorems on refusals.
use Rattle.std.proofs.Common.{◌≡◌, ℕ, zero, suc, ◌+◌, ◌<◌, Bool, true, false, cond, not, ◌&&◌, ltb, List, [], ◌∷◌, length, get_or, drop, Ok, Err, Result, sym, refl, ap, ◌∙◌, subst, add-zero, one-add, arith, rules}
use lib.Dec.{leb-suc-suc, leb-suc-zero}
use Rattle.std.specs.List.{prefix_len}
use Rattle.std.proofs.lemmas.List.Folds.{length-prefix_len}
use Rattle.std.proofs.lemmas.Bool.{and_from, and_left, and_right, both_ways, cond-true, cond-false, not_from_true, lt-ltb}
use Rattle.std.proofs.lemmas.Bool.Decides.{nat_tests}
use Rattle.signs.specs.declared.fault.SignFault.{SignFault}
use Rattle.signs.specs.declared.fault.SignFault.TheVariants.{TextTooLong, StrayByte, NameTooLong}
use Rattle.signs.specs.Names.{inner, letter}
use Rattle.signs.specs.Runs.{blank, inner_run}
use Rattle.signs.specs.Signs.{Mark, sign_at, word_at, and_then, signs_from}
use Rattle.signs.specs.FirstFault.{single, stray}
use Rattle.signs.proofs.Bytes.{letter_inner, blank_no_inner, single_no_inner, sign_single, sign_letter, sign_stray}

-- the faults of a text behind a byte of which `inside` says whether it could stand in a name
abbrev pub in_front : Bool → List ℕ → ℕ → Bool
in_front inside bs zero = inside
in_front inside bs (suc k) = inner (get_or bs k 0)

abbrev pub stray_in : Bool → List ℕ → ℕ → Bool
stray_in inside bs k = ltb k (length bs) && stray (in_front inside bs k) (get_or bs k 0)

abbrev pub long_in : Bool → List ℕ → ℕ → Bool
long_in inside bs k = not (in_front inside bs k) && (letter (get_or bs k 0) && ltb 12 (prefix_len inner (drop k bs)))

abbrev pub Sound : Bool → List ℕ → ℕ → Type 0
Sound inside bs k = (stray_in inside bs k ≡ false) × (long_in inside bs k ≡ false)

-- one byte further, the faults are the same
stray_further : (inside : Bool) (b : ℕ) (bs : List ℕ) (k : ℕ) → stray_in inside (b ∷ bs) (suc k) ≡ stray_in (inner b) bs k
stray_further inside b bs zero = ap (λ t. t && stray (inner b) (get_or bs 0 0)) (leb-suc-suc 1 (length bs))
stray_further inside b bs (suc k) = ap (λ t. t && stray (inner (get_or bs k 0)) (get_or bs (suc k) 0)) (leb-suc-suc (suc (suc k)) (length bs))

long_further : (inside : Bool) (b : ℕ) (bs : List ℕ) (k : ℕ) → long_in inside (b ∷ bs) (suc k) ≡ long_in (inner b) bs k
long_further inside b bs zero = refl
long_further inside b bs (suc k) = refl

-- what a verdict says of the faults of the bytes that stand from `place` on
abbrev pub Verdict : Bool → ℕ → List ℕ → Result (List Mark) SignFault → Type 0
Verdict inside place bs (Ok ms) = (k : ℕ) → Sound inside bs k
Verdict inside place bs (Err TextTooLong) = ⊥
Verdict inside place bs (Err (StrayByte at)) = (k : ℕ) × (at ≡ place + k) × (stray_in inside bs k ≡ true) × ((j : ℕ) → j < k → Sound inside bs j)
Verdict inside place bs (Err (NameTooLong at)) = (k : ℕ) × (at ≡ place + k) × (long_in inside bs k ≡ true) × ((j : ℕ) → j < k → Sound inside bs j)

sound_more : (inside : Bool) (b : ℕ) (bs : List ℕ) (k : ℕ) → Sound inside (b ∷ bs) 0 → ((j : ℕ) → j < k → Sound (inner b) bs j) → (j : ℕ) → j < suc k → Sound inside (b ∷ bs) j
sound_more inside b bs k first others zero h = first
sound_more inside b bs k first others (suc j) h =
    let o = others j (omega arith) in
    (stray_further inside b bs j ∙ o.0, long_further inside b bs j ∙ o.1)

-- a verdict on the bytes behind a sound one
verdict_more : (inside : Bool) (place b : ℕ) (bs : List ℕ) (r : Result (List Mark) SignFault) → Sound inside (b ∷ bs) 0 → Verdict (inner b) (place + 1) bs r → Verdict inside place (b ∷ bs) r
verdict_more inside place b bs (Ok ms) first v = λ k. sound_more inside b bs k first (λ j _. v j) k (omega arith)
verdict_more inside place b bs (Err TextTooLong) first v = v
verdict_more inside place b bs (Err (StrayByte at)) first v =
    (suc v.0, v.1 ∙ omega arith, stray_further inside b bs v.0 ∙ v.2, sound_more inside b bs v.0 first v.3)
verdict_more inside place b bs (Err (NameTooLong at)) first v =
    (suc v.0, v.1 ∙ omega arith, long_further inside b bs v.0 ∙ v.2, sound_more inside b bs v.0 first v.3)

-- a sign in front of a list changes no verdict
verdict_then : (inside : Bool) (place : ℕ) (bs : List ℕ) (m : Mark) (r : Result (List Mark) SignFault) → Verdict inside place bs r → Verdict inside place bs (and_then (Ok m) r)
verdict_then inside place bs m r v = search rules

-- a first byte that is sound
no_inner_no_letter : (b : ℕ) → inner b ≡ false → letter b ≡ false
no_inner_no_letter b h = grind (arith, nat_tests)

sound_blank : (inside : Bool) (b : ℕ) (bs : List ℕ) → blank b ≡ true → Sound inside (b ∷ bs) 0
sound_blank inside b bs h = (
  and_right _ _ (and_left (not (blank b)) _ (not_from_true (blank b) h)),
  and_right (not inside) _ (and_left (letter b) _ (no_inner_no_letter b (blank_no_inner b h))),
)

sound_single : (inside : Bool) (b : ℕ) (bs : List ℕ) → single b ≡ true → Sound inside (b ∷ bs) 0
sound_single inside b bs h = (
  and_right _ _ (and_right (not (blank b)) _ (and_left (not (single b)) _ (not_from_true (single b) h))),
  and_right (not inside) _ (and_left (letter b) _ (no_inner_no_letter b (single_no_inner b h))),
)

sound_inner : (b : ℕ) (bs : List ℕ) → inner b ≡ true → Sound true (b ∷ bs) 0
sound_inner b bs h = (and_right _ _ (and_right (not (blank b)) _ (and_right (not (single b)) _ (not_from_true (inner b) h))), refl)

sound_word : (b : ℕ) (bs : List ℕ) → letter b ≡ true → ltb 12 (prefix_len inner (b ∷ bs)) ≡ false → Sound false (b ∷ bs) 0
sound_word b bs h short =
    (and_right _ _ (and_right (not (blank b)) _ (and_right (not (single b)) _ (not_from_true (letter b) h))), and_right (letter b) _ short)

-- a first byte that is stray
stray_first : (inside : Bool) (b : ℕ) (bs : List ℕ) → (inside && inner b) ≡ false → blank b ≡ false → single b ≡ false → letter b ≡ false → stray_in inside (b ∷ bs) 0 ≡ true
stray_first true b bs out h s l = and_from _ _ (lt-ltb 0 (length (b ∷ bs)) (omega arith)) (rw (h, s, out))
stray_first false b bs out h s l = and_from _ _ (lt-ltb 0 (length (b ∷ bs)) (omega arith)) (rw (h, s, l))

-- a word is as long as its run
word_length : (b : ℕ) (bs : List ℕ) → letter b ≡ true → prefix_len inner (b ∷ bs) ≡ length (b ∷ inner_run bs)
word_length b bs l = rw (letter_inner b l, one-add) (ap suc (sym (length-prefix_len inner bs)))

none_before : (inside : Bool) (bs : List ℕ) (j : ℕ) → j < 0 → Sound inside bs j
none_before inside bs j h = absurd (omega arith)

-- the verdict on bytes of which the first does not go on with a name
verdict_start : (inside : Bool) (place b : ℕ) (bs : List ℕ) → (inside && inner b) ≡ false → Verdict (inner b) (place + 1) bs (signs_from (inner b) (place + 1) bs) → Verdict inside place (b ∷ bs) (signs_from inside place (b ∷ bs))
verdict_start inside place b bs out v = subst (Verdict inside place (b ∷ bs)) (sym (cond-false _ _ _ out)) (go (blank b) refl (single b) refl (letter b) refl)
  where
    word : (x : Bool) → ltb 12 (length (b ∷ inner_run bs)) ≡ x → letter b ≡ true → (y : Bool) → inside ≡ y → Verdict y place (b ∷ bs) (and_then (word_at place (b ∷ inner_run bs)) (signs_from (inner b) (place + 1) bs))
    word x e l true i = absurd (both_ways true (rw (i, letter_inner b l) at out) refl)
    word true long l false i = rw long (0, sym (add-zero place), and_from (letter b) _ l (rw (word_length b bs l) long), none_before false (b ∷ bs))
    word false short l false i =
        rw short (verdict_then false place (b ∷ bs) _ (signs_from (inner b) (place + 1) bs) (verdict_more false place b bs (signs_from (inner b) (place + 1) bs) (sound_word b bs l (rw (word_length b bs l) short)) v))

    go : (x : Bool) → blank b ≡ x → (y : Bool) → single b ≡ y → (z : Bool) → letter b ≡ z
        → Verdict inside place (b ∷ bs) (cond (blank b) (signs_from false (place + 1) bs) (and_then (sign_at place b bs) (signs_from (inner b) (place + 1) bs)))
    go true h y s z l = rw (h, ← blank_no_inner b h) (verdict_more inside place b bs (signs_from (inner b) (place + 1) bs) (sound_blank inside b bs h) v)
    go false h true s z l =
        let m = sign_single place b bs s in
        rw (h, m.1.is) (verdict_then inside place (b ∷ bs) m.0 (signs_from (inner b) (place + 1) bs) (verdict_more inside place b bs (signs_from (inner b) (place + 1) bs) (sound_single inside b bs s) v))
    go false h false s true l = rw (h, sign_letter place b bs l) (word _ refl l inside refl)
    go false h false s false l = rw (h, sign_stray place b bs s l) (0, sym (add-zero place), stray_first inside b bs out h s l, none_before inside (b ∷ bs))

pub verdict : (inside : Bool) (place : ℕ) (bs : List ℕ) → Verdict inside place bs (signs_from inside place bs)
verdict inside place [] = λ k. (and_left (ltb k 0) _ (leb-suc-zero k), and_right (not (in_front inside [] k)) false refl)
verdict inside place (b ∷ bs) = go inside (inner b) refl (verdict (inner b) (place + 1) bs)
  where
    go : (i x : Bool) → inner b ≡ x → Verdict (inner b) (place + 1) bs (signs_from (inner b) (place + 1) bs) → Verdict i place (b ∷ bs) (signs_from i place (b ∷ bs))
    go true true e v =
        let same : signs_from (inner b) (place + 1) bs ≡ signs_from true place (b ∷ bs) = ap (λ x. signs_from x (place + 1) bs) e ∙ sym (cond-true _ _ _ e) in
        subst (Verdict true place (b ∷ bs)) same (verdict_more true place b bs (signs_from (inner b) (place + 1) bs) (sound_inner b bs e) v)
    go true false e v = verdict_start true place b bs e v
    go false x e v = verdict_start false place b bs refl v
