-- Where a text is refused: at its first fault from the left, and nowhere if it has none.
use Rattle.std.proofs.Common.{◌≡◌, ℕ, ◌<◌, true, false, not, ltb, List, length, get_or, Ok, Err, Result, sym, refl, ap, ◌∙◌, subst, inl, inr, zero-add, rules}
use Rattle.std.proofs.lemmas.List.{get_or_past}
use Rattle.std.proofs.lemmas.Bool.{and_parts, both_ways, cond-false, cases_lt, cases_order, not-true, ltb-true}
use Rattle.signs.specs.declared.fault.SignFault.{SignFault}
use Rattle.signs.specs.declared.fault.SignFault.TheVariants.{TextTooLong, StrayByte, NameTooLong}
use Rattle.signs.specs.Names.{inner, letter}
use Rattle.signs.specs.Runs.{blank}
use Rattle.signs.specs.Signs.{Mark, signs_from}
use Rattle.signs.specs.FirstFault.{single, stray, stray_at, long_at, inner_in_front, SoundBefore}
use Rattle.signs.proofs.Verdict.{stray_in, long_in, Sound, Verdict, verdict}

-- the faults of a whole text are those behind no name
stray_whole : (text : List ℕ) (k : ℕ) → stray_at text k ≡ stray_in false text k
stray_whole text k = search rules

long_whole : (text : List ℕ) (k : ℕ) → long_at text k ≡ long_in false text k
long_whole text k = search rules

-- where a text has its first fault
record FirstFault (text : List ℕ) (place : ℕ) : Type 0 where
  unsound : (stray_at text place ≡ false) × (long_at text place ≡ false) → ⊥
  before : SoundBefore text place

same_first : (text : List ℕ) (j k : ℕ) → FirstFault text j → FirstFault text k → j ≡ k
same_first text j k f g =
    elim (cases_order j k) [
      | inl e ↦ e
      | inr o ↦ elim o [
        | inl h ↦ absurd (f.unsound (g.before j h))
        | inr h ↦ absurd (g.unsound (f.before k h))
      ]
    ]

stray_first_fault : (text : List ℕ) (place : ℕ) → stray_at text place ≡ true → SoundBefore text place → FirstFault text place
stray_first_fault text place s before = record { unsound = λ o. both_ways (stray_at text place) o.0 s; before = before }

long_first_fault : (text : List ℕ) (place : ℕ) → long_at text place ≡ true → SoundBefore text place → FirstFault text place
long_first_fault text place s before = record { unsound = λ o. both_ways (long_at text place) o.1 s; before = before }

-- no place has both faults
not_both : (text : List ℕ) (place : ℕ) → stray_at text place ≡ true → long_at text place ≡ true → ⊥
not_both text place s l =
    let front = inner_in_front text place in
    let b = get_or text place 0 in
    let p = and_parts (not front) _ l in
    let q = and_parts (letter b) _ p.1 in
    let r = and_parts (ltb place (length text)) (stray front b) s in
    let t = and_parts (not (blank b)) _ r.1 in
    let u = and_parts (not (single b)) _ t.1 in
    let free : not (letter b) ≡ true = sym (cond-false front (not (inner b)) (not (letter b)) (not-true front p.0)) ∙ u.1 in
    both_ways (letter b) (not-true (letter b) free) q.0

-- a verdict on a whole text, in the words of the text
abbrev pub Whole : List ℕ → Result (List Mark) SignFault → Type 0
Whole text (Ok ms) = (k : ℕ) → (stray_at text k ≡ false) × (long_at text k ≡ false)
Whole text (Err TextTooLong) = ⊥
Whole text (Err (StrayByte place)) = (stray_at text place ≡ true) × SoundBefore text place
Whole text (Err (NameTooLong place)) = (long_at text place ≡ true) × SoundBefore text place

sound_whole : (text : List ℕ) (k : ℕ) → Sound false text k → (stray_at text k ≡ false) × (long_at text k ≡ false)
sound_whole text k s = (stray_whole text k ∙ s.0, long_whole text k ∙ s.1)

whole_from : (text : List ℕ) (r : Result (List Mark) SignFault) → Verdict false 0 text r → Whole text r
whole_from text (Ok ms) v = λ k. sound_whole text k (v k)
whole_from text (Err TextTooLong) v = v
whole_from text (Err (StrayByte place)) v =
    let here : v.0 ≡ place = sym (v.1 ∙ zero-add v.0) in
    subst (λ k. (stray_at text k ≡ true) × SoundBefore text k) here (stray_whole text v.0 ∙ v.2, λ j h. sound_whole text j (v.3 j h))
whole_from text (Err (NameTooLong place)) v =
    let here : v.0 ≡ place = sym (v.1 ∙ zero-add v.0) in
    subst (λ k. (long_at text k ≡ true) × SoundBefore text k) here (long_whole text v.0 ∙ v.2, λ j h. sound_whole text j (v.3 j h))

pub whole : (text : List ℕ) → Whole text (signs_from false 0 text)
whole text = whole_from text (signs_from false 0 text) (verdict false 0 text)

-- the first fault decides what is read
pub stray_read : (text : List ℕ) (place : ℕ) → stray_at text place ≡ true → SoundBefore text place → (r : Result (List Mark) SignFault) → Whole text r → r ≡ Err (StrayByte place)
stray_read text place s before (Ok ms) w = absurd (both_ways (stray_at text place) (w place).0 s)
stray_read text place s before (Err TextTooLong) w = absurd w
stray_read text place s before (Err (StrayByte at)) w =
    ap (λ k. Err (StrayByte k)) (same_first text at place (stray_first_fault text at w.0 w.1) (stray_first_fault text place s before))
stray_read text place s before (Err (NameTooLong at)) w =
    let same = same_first text at place (long_first_fault text at w.0 w.1) (stray_first_fault text place s before) in
    absurd (not_both text place s (subst (λ k. long_at text k ≡ true) same w.0))

pub long_read : (text : List ℕ) (place : ℕ) → long_at text place ≡ true → SoundBefore text place → (r : Result (List Mark) SignFault) → Whole text r → r ≡ Err (NameTooLong place)
long_read text place l before (Ok ms) w = absurd (both_ways (long_at text place) (w place).1 l)
long_read text place l before (Err TextTooLong) w = absurd w
long_read text place l before (Err (StrayByte at)) w =
    let same = same_first text at place (stray_first_fault text at w.0 w.1) (long_first_fault text place l before) in
    absurd (not_both text place (subst (λ k. stray_at text k ≡ true) same w.0) l)
long_read text place l before (Err (NameTooLong at)) w =
    ap (λ k. Err (NameTooLong k)) (same_first text at place (long_first_fault text at w.0 w.1) (long_first_fault text place l before))

-- a fault stands within the text
long_within : (text : List ℕ) (place : ℕ) → long_at text place ≡ true → place < length text
long_within text place l = elim (cases_lt place (length text)) [
  | inl h ↦ h
  | inr h ↦
      let p = and_parts (letter (get_or text place 0)) _ (and_parts (not (inner_in_front text place)) _ l).1 in
      absurd (both_ways (letter 0) refl (sym (ap letter (get_or_past text place 0 h)) ∙ p.0))
]

pub sound_read : (text : List ℕ) → SoundBefore text (length text) → (r : Result (List Mark) SignFault) → Whole text r → (ms : List Mark) × (r ≡ Ok ms)
sound_read text sound (Ok ms) w = (ms, refl)
sound_read text sound (Err TextTooLong) w = absurd w
sound_read text sound (Err (StrayByte at)) w =
    let within : at < length text = ltb-true at (length text) (and_parts (ltb at (length text)) _ w.0).0 in
    absurd (both_ways (stray_at text at) (sound at within).0 w.0)
sound_read text sound (Err (NameTooLong at)) w = absurd (both_ways (long_at text at) (sound at (long_within text at w.0)).1 w.0)
