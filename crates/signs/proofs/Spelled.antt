-- The signs that are read from a text spell it, and signs that spell a text are read from it; so no other list does.
use Rattle.std.proofs.Common.{◌≡◌, ℕ, suc, ◌+◌, Bool, true, false, not, ltb, leb, List, [], ◌∷◌, ◌++◌, length, take, drop, Ok, Err, Result, sym, refl, ap, ◌∙◌, subst, add-zero, one-add, arith, take-append-drop}
use Rattle.std.specs.List.{prefix_len}
use Rattle.std.proofs.lemmas.List.{append-nil, take_at, drop_at}
use Rattle.std.proofs.lemmas.List.Folds.{length-prefix_len}
use Rattle.std.proofs.lemmas.Bool.{and_from, and_parts, both_ways, cond-true, cond-false, not-true, ltb-false, le-leb, leb-true, le-ltb}
use Rattle.signs.specs.declared.fault.SignFault.{SignFault}
use Rattle.signs.specs.declared.fault.SignFault.TheVariants.{NameTooLong}
use Rattle.std.specs.List.{list_all}
use Rattle.signs.specs.Names.{inner, letter, spelled, reserved}
use Rattle.signs.specs.Runs.{blank, inner_run}
use Rattle.signs.specs.Signs.{Mark, named, skipping, stopping, opening, closing, negating, repeating, following, choosing, bytes_of, stands_at, behind, sign_at, word_at, word_of, and_then, signs_from}
use Rattle.signs.specs.Spelling.{Spells, stops, well_made, as_long_as_can_be}
use Rattle.signs.specs.FirstFault.{single}
use Rattle.signs.proofs.Bytes.{Lone, letter_inner, inner_no_blank, single_no_inner, sign_single, sign_letter, sign_stray, lone_behind}
use Rattle.signs.proofs.Words.{word_bytes, word_stands, word_behind, word_made, word_whole, word_named, run_inner, run_stops, run_length}
use Rattle.signs.proofs.Steps.{signs_inside}

-- what a list of signs satisfies, if there is one
abbrev OfSigns : (List Mark → Type 0) → Result (List Mark) SignFault → Type 0
OfSigns P (Ok ms) = P ms
OfSigns P (Err fault) = Unit {0}

weaker : (P Q : List Mark → Type 0) (r : Result (List Mark) SignFault) → ((ms : List Mark) → P ms → Q ms) → OfSigns P r → OfSigns Q r
weaker P Q (Ok ms) f h = f ms h
weaker P Q (Err fault) f h = tt

with_first : (P Q : List Mark → Type 0) (m : Mark) (r : Result (List Mark) SignFault) → ((ms : List Mark) → P ms → Q (m ∷ ms)) → OfSigns P r → OfSigns Q (and_then (Ok m) r)
with_first P Q m (Ok ms) f h = f ms h
with_first P Q m (Err fault) f h = tt

-- one more blank in front
more_blank : (place b : ℕ) (bs : List ℕ) → blank b ≡ true → (ms : List Mark) → Spells (place + 1) bs ms → Spells place (b ∷ bs) ms
more_blank place b bs h [] s = and_from (blank b) (list_all blank bs) h s
more_blank place b bs h (m ∷ ms) s =
    record {
      gap = b ∷ s.gap;
      rest = s.rest;
      blanks = and_from (blank b) (list_all blank s.gap) h s.blanks;
      joined = ap (λ cs. b ∷ cs) s.joined;
      stands = s.stands ∙ omega arith;
      made = s.made;
      whole = s.whole;
      more = s.more;
    }

-- a sign by itself in front
more_single : (place b : ℕ) (bs : List ℕ) (m : Mark) → Lone place b bs m → (ms : List Mark) → Spells (place + 1) bs ms → Spells place (b ∷ bs) (m ∷ ms)
more_single place b bs m lone ms s =
    record {
      gap = [];
      rest = bs;
      blanks = refl;
      joined = ap (λ cs. cs ++ bs) lone.bytes;
      stands = lone.stands ∙ sym (add-zero place);
      made = lone.made;
      whole = lone.whole bs;
      more = rw (lone_behind place b bs m lone) s;
    }

-- inside a name, what is spelled begins where the name ends
abbrev Inside : ℕ → List ℕ → List Mark → Type 0
Inside place bs ms = Spells (place + prefix_len inner bs) (drop (prefix_len inner bs) bs) ms

inside_more : (place b : ℕ) (bs : List ℕ) → inner b ≡ true → (ms : List Mark) → Inside (place + 1) bs ms → Inside place (b ∷ bs) ms
inside_more place b bs e ms s =
    let there : place + 1 + prefix_len inner bs ≡ place + suc (prefix_len inner bs) = omega arith in
    rw (e, one-add) (subst (λ q. Spells q (drop (prefix_len inner bs) bs) ms) there s)

inside_none : (place b : ℕ) (bs : List ℕ) → inner b ≡ false → (ms : List Mark) → Spells place (b ∷ bs) ms → Inside place (b ∷ bs) ms
inside_none place b bs e ms s = rw (e, add-zero) s

-- a word in front
more_word : (place b : ℕ) (bs : List ℕ) → letter b ≡ true → ltb 12 (length (b ∷ inner_run bs)) ≡ false
    → (ms : List Mark) → Inside (place + 1) bs ms → Spells place (b ∷ bs) (word_of (b ∷ inner_run bs) place ∷ ms)
more_word place b bs l short ms s =
    let word = b ∷ inner_run bs in
    let ends : behind (word_of word place) ≡ place + 1 + prefix_len inner bs =
    word_behind word place ∙ omega (arith, length-prefix_len inner bs)
    in
    record {
      gap = [];
      rest = drop (prefix_len inner bs) bs;
      blanks = refl;
      joined = ap (λ cs. cs ++ drop (prefix_len inner bs) bs) (word_bytes word place) ∙ ap (λ cs. b ∷ cs) (take-append-drop (prefix_len inner bs) bs);
      stands = word_stands word place ∙ sym (add-zero place);
      made = word_made word place (and_from (letter b) (list_all inner (inner_run bs)) l (run_inner bs)) (le-leb (length word) 12 (ltb-false 12 (length word) short));
      whole = word_whole word place (drop (prefix_len inner bs) bs) (run_stops bs);
      more = subst (λ q. Spells q (drop (prefix_len inner bs) bs) ms) (sym ends) s;
    }

spell_start : (place b : ℕ) (bs : List ℕ)
    → OfSigns (Spells (place + 1) bs) (signs_from false (place + 1) bs)
    → OfSigns (Inside (place + 1) bs) (signs_from true (place + 1) bs)
    → OfSigns (Spells place (b ∷ bs)) (signs_from false place (b ∷ bs))
spell_start place b bs apart inside = go (blank b) refl (single b) refl (letter b) refl
  where
    word : (x : Bool) → ltb 12 (length (b ∷ inner_run bs)) ≡ x → letter b ≡ true → OfSigns (Spells place (b ∷ bs)) (and_then (word_at place (b ∷ inner_run bs)) (signs_from true (place + 1) bs))
    word true long l = rw long tt
    word false short l =
        rw short (with_first (Inside (place + 1) bs) (Spells place (b ∷ bs)) (word_of (b ∷ inner_run bs) place) (signs_from true (place + 1) bs) (more_word place b bs l short) inside)

    go : (x : Bool) → blank b ≡ x → (y : Bool) → single b ≡ y → (z : Bool) → letter b ≡ z → OfSigns (Spells place (b ∷ bs)) (signs_from false place (b ∷ bs))
    go true h y s z l = rw h (weaker (Spells (place + 1) bs) (Spells place (b ∷ bs)) (signs_from false (place + 1) bs) (more_blank place b bs h) apart)
    go false h true s z l =
        let m = sign_single place b bs s in
        rw (h, m.1.is, single_no_inner b s) (with_first (Spells (place + 1) bs) (Spells place (b ∷ bs)) m.0 (signs_from false (place + 1) bs) (more_single place b bs m.0 m.1) apart)
    go false h false s true l = rw (h, sign_letter place b bs l, letter_inner b l) (word _ refl l)
    go false h false s false l = rw (h, sign_stray place b bs s l) tt

-- what is read spells the text, apart from a name and inside one
spell : (place : ℕ) (bs : List ℕ) → OfSigns (Spells place bs) (signs_from false place bs) × OfSigns (Inside place bs) (signs_from true place bs)
spell place [] = (refl, refl)
spell place (b ∷ bs) = go (inner b) refl (spell (place + 1) bs)
  where
    go : (x : Bool) → inner b ≡ x
        → OfSigns (Spells (place + 1) bs) (signs_from false (place + 1) bs) × OfSigns (Inside (place + 1) bs) (signs_from true (place + 1) bs)
        → OfSigns (Spells place (b ∷ bs)) (signs_from false place (b ∷ bs)) × OfSigns (Inside place (b ∷ bs)) (signs_from true place (b ∷ bs))
    go true e ih =
        let same : signs_from true (place + 1) bs ≡ signs_from true place (b ∷ bs) = sym (cond-true _ _ _ e) in (
          spell_start place b bs ih.0 ih.1,
          subst (OfSigns (Inside place (b ∷ bs))) same (weaker (Inside (place + 1) bs) (Inside place (b ∷ bs)) (signs_from true (place + 1) bs) (inside_more place b bs e) ih.1),
        )
    go false e ih =
        let start = spell_start place b bs ih.0 ih.1 in
        let same : signs_from false place (b ∷ bs) ≡ signs_from true place (b ∷ bs) = sym (cond-false _ _ _ e) in
        (start, subst (OfSigns (Inside place (b ∷ bs))) same (weaker (Spells place (b ∷ bs)) (Inside place (b ∷ bs)) (signs_from false place (b ∷ bs)) (inside_none place b bs e) start))

pub read_spells : (text : List ℕ) (ms : List Mark) → signs_from false 0 text ≡ Ok ms → Spells 0 text ms
read_spells text ms h = subst (OfSigns (Spells 0 text)) h (spell 0 text).0

-- blanks in front are passed over
signs_blanks : (place : ℕ) (gap bs : List ℕ) → list_all blank gap ≡ true → signs_from false place (gap ++ bs) ≡ signs_from false (place + length gap) bs
signs_blanks place [] bs h = rw add-zero
signs_blanks place (b ∷ gap) bs h =
    let p = and_parts (blank b) (list_all blank gap) h in
    rw p.0 (signs_blanks (place + 1) gap bs p.1 ∙ ap (λ q. signs_from false q bs) (omega arith))

-- a word that is as long as can be is read, and then what follows it
signs_word : (word : List ℕ) (place : ℕ) (rest : List ℕ) → spelled word ≡ true → leb (length word) 12 ≡ true → stops rest ≡ true
    → signs_from false place (word ++ rest) ≡ and_then (Ok (word_of word place)) (signs_from false (place + length word) rest)
signs_word [] place rest s l h = absurd (both_ways false refl s)
signs_word (b ∷ word) place rest s l h =
    let p = and_parts (letter b) (list_all inner word) s in
    let run : prefix_len inner (word ++ rest) ≡ length word = run_length word rest p.1 h in
    let whole : inner_run (word ++ rest) ≡ word = ap (λ n. take n (word ++ rest)) run ∙ take_at word rest (length word) refl in
    let short : ltb 12 (length (b ∷ word)) ≡ false = le-ltb 12 (length (b ∷ word)) (leb-true (length (b ∷ word)) 12 l) in
    let sign : sign_at place b (word ++ rest) ≡ Ok (word_of (b ∷ word) place) =
    sign_letter place b (word ++ rest) p.0 ∙ ap (λ cs. word_at place (b ∷ cs)) whole ∙ cond-false _ (Err (NameTooLong place)) (Ok (word_of (b ∷ word) place)) short
    in
    let behind : signs_from true (place + 1) (word ++ rest) ≡ signs_from false (place + suc (length word)) rest =
    signs_inside (place + 1) (word ++ rest)
    ∙ ap (λ n. signs_from false (place + 1 + n) (drop n (word ++ rest))) run
    ∙ ap (signs_from false (place + 1 + length word)) (drop_at word rest (length word) refl)
    ∙ ap (λ q. signs_from false q rest) (omega arith)
    in
    rw (inner_no_blank b (letter_inner b p.0), sign, letter_inner b p.0) (ap (and_then (Ok (word_of (b ∷ word) place))) behind)

signs_mark : (m : Mark) (rest : List ℕ) → well_made m ≡ true → as_long_as_can_be m rest ≡ true → signs_from false (stands_at m) (bytes_of m ++ rest) ≡ and_then (Ok m) (signs_from false (behind m) rest)
signs_mark (named name place) rest w h =
    let p = and_parts _ (not (reserved name)) w in
    let q = and_parts (spelled name) (leb (length name) 12) p.0 in
    signs_word name place rest q.0 q.1 h ∙ ap (λ m. and_then (Ok m) (signs_from false (place + length name) rest)) (word_named name place (not-true (reserved name) p.1))
signs_mark (skipping place) rest w h = signs_word (bytes_of (skipping place)) place rest refl refl h
signs_mark (stopping place) rest w h = signs_word (bytes_of (stopping place)) place rest refl refl h
signs_mark (opening place) rest w h = refl
signs_mark (closing place) rest w h = refl
signs_mark (negating place) rest w h = refl
signs_mark (repeating place) rest w h = refl
signs_mark (following place) rest w h = refl
signs_mark (choosing place) rest w h = refl

-- signs that spell the text are read from it
pub spelled_read : (place : ℕ) (text : List ℕ) (ms : List Mark) → Spells place text ms → signs_from false place text ≡ Ok ms
spelled_read place text [] s = ap (signs_from false place) (sym (append-nil text)) ∙ signs_blanks place text [] s
spelled_read place text (m ∷ ms) s =
    ap (signs_from false place) (sym s.joined)
    ∙ signs_blanks place s.gap (bytes_of m ++ s.rest) s.blanks
    ∙ ap (λ q. signs_from false q (bytes_of m ++ s.rest)) (sym s.stands)
    ∙ signs_mark m s.rest s.made s.whole
    ∙ ap (and_then (Ok m)) (spelled_read (behind m) s.rest ms s.more)
