-- The next sign of a text against the list of all its signs.
use Rattle.std.proofs.Common.{◌≡◌, ℕ, suc, ◌+◌, ◌-◌, ◌<◌, ◌≤◌, Bool, true, false, ltb, List, [], ◌∷◌, length, get_or, drop, Some, None, Ok, Err, Option, Result, sym, refl, ap, ◌∙◌, zero-le, add-zero, add-one, one-add, arith, drop-cons}
use Rattle.std.specs.List.{prefix_len}
use Rattle.std.proofs.lemmas.List.{drop_all, drop-drop, get_or-drop, length-drop}
use Rattle.std.proofs.lemmas.List.Folds.{length-prefix_len}
use Rattle.std.proofs.lemmas.List.Sums.{prefix_len-le-length, prefix_len_stops}
use Rattle.std.proofs.lemmas.Bool.{cond-false}
use Rattle.signs.specs.declared.fault.SignFault.{SignFault}
use Rattle.signs.specs.declared.fault.SignFault.TheVariants.{NameTooLong}
use Rattle.signs.specs.Names.{inner, letter}
use Rattle.signs.specs.Runs.{blank, inner_run}
use Rattle.signs.specs.Signs.{Mark, behind, sign_at, word_at, word_of, next_sign, found, signs_from, and_then}
use Rattle.signs.specs.FirstFault.{single}
use Rattle.signs.proofs.Bytes.{letter_inner, single_no_inner, sign_single, sign_letter, sign_stray, lone_behind}
use Rattle.signs.proofs.Words.{word_behind}

-- inside a name, the list goes on where the name ends
pub signs_inside : (place : ℕ) (bs : List ℕ) → signs_from true place bs ≡ signs_from false (place + prefix_len inner bs) (drop (prefix_len inner bs) bs)
signs_inside place [] = refl
signs_inside place (b ∷ bs) = go (inner b) refl (signs_inside (place + 1) bs)
  where
    go : (x : Bool) → inner b ≡ x → signs_from true (place + 1) bs ≡ signs_from false (place + 1 + prefix_len inner bs) (drop (prefix_len inner bs) bs)
        → signs_from true place (b ∷ bs) ≡ signs_from false (place + prefix_len inner (b ∷ bs)) (drop (prefix_len inner (b ∷ bs)) (b ∷ bs))
    go true e h = rw (e, one-add) (h ∙ ap (λ n. signs_from false n (drop (prefix_len inner bs) bs)) (omega arith))
    go false e h = rw (e, add-zero, e)

-- blanks are passed over
pub next_blanks : (place : ℕ) (bs : List ℕ) → next_sign place bs ≡ next_sign (place + prefix_len blank bs) (drop (prefix_len blank bs) bs)
next_blanks place [] = refl
next_blanks place (b ∷ bs) = go (blank b) refl (next_blanks (place + 1) bs)
  where
    go : (x : Bool) → blank b ≡ x → next_sign (place + 1) bs ≡ next_sign (place + 1 + prefix_len blank bs) (drop (prefix_len blank bs) bs)
        → next_sign place (b ∷ bs) ≡ next_sign (place + prefix_len blank (b ∷ bs)) (drop (prefix_len blank (b ∷ bs)) (b ∷ bs))
    go true e h = rw (e, one-add) (h ∙ ap (λ n. next_sign n (drop (prefix_len blank bs) bs)) (omega arith))
    go false e h = rw (e, add-zero, e)

-- the next sign from a place on, where the blanks end at another
module _ (text : List ℕ) (from at : ℕ) (passed : at ≡ from + prefix_len blank (drop from text)) where
  next_at : next_sign from (drop from text) ≡ next_sign at (drop at text)
  next_at = next_blanks from (drop from text) ∙ rw (passed, drop-drop)

  pub next_none : length text ≤ at → next_sign from (drop from text) ≡ Ok None
  next_none h = next_at ∙ ap (next_sign at) (drop_all at text h)

  pub next_there : at < length text → next_sign from (drop from text) ≡ found (sign_at at (get_or text at 0) (drop (at + 1) text))
  next_there h =
      let no-blank : blank (get_or text at 0) ≡ false = rw (passed, ← get_or-drop) (prefix_len_stops blank (drop from text) 0 (omega (arith, passed, length-drop from text))) in
      next_at ∙ rw (drop-cons text at 0, no-blank, add-one)

-- one step of the list: nothing at the end, the fault, or a sign and the list behind it
abbrev pub Steps : ℕ → List ℕ → Result (Option Mark) SignFault → Type 0
Steps place bs (Ok None) = signs_from false place bs ≡ Ok []
Steps place bs (Ok (Some m)) = (signs_from false place bs ≡ and_then (Ok m) (signs_from false (behind m) (drop (behind m - place) bs))) × (place < behind m) × (behind m ≤ place + length bs)
Steps place bs (Err fault) = signs_from false place bs ≡ Err fault

-- a blank in front changes nothing
steps_blank : (place b : ℕ) (bs : List ℕ) (r : Result (Option Mark) SignFault) → blank b ≡ true → Steps (place + 1) bs r → Steps place (b ∷ bs) r
steps_blank place b bs (Ok None) h s = rw h s
steps_blank place b bs (Ok (Some m)) h s =
    let more : behind m - place ≡ suc (behind m - (place + 1)) = omega (arith, s.1) in
    (rw (h, more) s.0, omega (arith, s.1), omega (arith, s.2))
steps_blank place b bs (Err fault) h s = rw h s

-- a sign that begins with the first byte and has `n` more
steps_found : (place b : ℕ) (bs : List ℕ) (m : Mark) (n : ℕ) → blank b ≡ false → sign_at place b bs ≡ Ok m → behind m ≡ place + 1 + n → n ≤ length bs
    → signs_from (inner b) (place + 1) bs ≡ signs_from false (place + 1 + n) (drop n bs) → Steps place (b ∷ bs) (Ok (Some m))
steps_found place b bs m n h is ends le ahead =
    let more : behind m - place ≡ suc n = omega (arith, ends) in
    (rw (h, is, more) (ap (and_then (Ok m)) (ahead ∙ ap (λ q. signs_from false q (drop n bs)) (sym ends))), omega (arith, ends), omega (arith, ends))

steps_sign : (place b : ℕ) (bs : List ℕ) → blank b ≡ false → Steps place (b ∷ bs) (found (sign_at place b bs))
steps_sign place b bs h = go (single b) refl (letter b) refl
  where
    word : (x : Bool) → ltb 12 (length (b ∷ inner_run bs)) ≡ x → letter b ≡ true → Steps place (b ∷ bs) (found (word_at place (b ∷ inner_run bs)))
    word true long l = rw long (rw (h, sign_letter place b bs l, long))
    word false short l =
        let is = sign_letter place b bs l ∙ cond-false _ (Err (NameTooLong place)) (Ok (word_of (b ∷ inner_run bs) place)) short in
        let le = prefix_len-le-length inner bs in
        let ends : behind (word_of (b ∷ inner_run bs) place) ≡ place + 1 + prefix_len inner bs =
        word_behind (b ∷ inner_run bs) place ∙ omega (arith, length-prefix_len inner bs)
        in
        rw short (steps_found place b bs (word_of (b ∷ inner_run bs) place) (prefix_len inner bs) h is ends le (rw (letter_inner b l) (signs_inside (place + 1) bs)))

    go : (x : Bool) → single b ≡ x → (y : Bool) → letter b ≡ y → Steps place (b ∷ bs) (found (sign_at place b bs))
    go true s y l =
        let m = sign_single place b bs s in
        rw m.1.is (steps_found place b bs m.0 0 h m.1.is (lone_behind place b bs m.0 m.1 ∙ sym (add-zero (place + 1))) zero-le (rw (single_no_inner b s, add-zero)))
    go false s true l = rw (sign_letter place b bs l) (word _ refl l)
    go false s false l = rw (sign_stray place b bs s l) (rw (h, sign_stray place b bs s l))

pub steps : (place : ℕ) (bs : List ℕ) → Steps place bs (next_sign place bs)
steps place [] = refl
steps place (b ∷ bs) = go (blank b) refl (steps (place + 1) bs)
  where
    go : (x : Bool) → blank b ≡ x → Steps (place + 1) bs (next_sign (place + 1) bs) → Steps place (b ∷ bs) (next_sign place (b ∷ bs))
    go true e h = rw e (steps_blank place b bs (next_sign (place + 1) bs) e h)
    go false e h = rw e (steps_sign place b bs e)
