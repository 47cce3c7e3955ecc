-- The lines of a text give it back, and its first line stands before its first line feed.
use Rattle.std.proofs.Common.{◌≡◌, ℕ, suc, ◌+◌, ◌<◌, Bool, true, false, cond, eqb, List, [], ◌∷◌, ◌++◌, length, take, drop, Some, None, sym, refl, ap, ◌∙◌, one-add, arith, length-drop}
use Rattle.std.proofs.lemmas.List.{nil_from_length}
use Rattle.std.proofs.lemmas.Bool.{eqb-true, not-false}
use Rattle.std.specs.List.{prefix_len, AllByRecursion}
use Rattle.words.specs.Lines.{in_line, begun, lines_of, fed, completed, OneLine, Lined, LineRead}

-- THE LINES GIVE THE TEXT BACK

feed_is : (b : ℕ) → in_line b ≡ false → 10 ≡ b
feed_is b e = sym (eqb-true b 10 (not-false (eqb b 10) e))

begun_single : (b : ℕ) (ls : List (List ℕ)) → in_line b ≡ true → AllByRecursion OneLine ls → AllByRecursion OneLine (begun b ls)
begun_single b [] e h = ((e, tt), tt)
begun_single b (l ∷ ls) e h = ((e, h.0), h.1)

single_if : (b : ℕ) (ls : List (List ℕ)) (t : Bool) → in_line b ≡ t → AllByRecursion OneLine ls → AllByRecursion OneLine (cond t (begun b ls) ([] ∷ ls))
single_if b ls true e h = begun_single b ls e h
single_if b ls false e h = (tt, h)

singles : (text : List ℕ) → AllByRecursion OneLine (lines_of text)
singles [] = tt
singles (b ∷ bs) = single_if b (lines_of bs) (in_line b) refl (singles bs)

-- a line that is begun keeps its line feed, since some line stands behind any byte
fed_begun : (b c : ℕ) (ls : List (List ℕ)) (t : Bool) → let behind = cond t (begun c ls) ([] ∷ ls) in fed (begun b behind) ≡ b ∷ fed behind
fed_begun b c [] true = refl
fed_begun b c (l ∷ ls) true = refl
fed_begun b c ls false = refl

whole_if :
    (b : ℕ) (t : Bool) → in_line b ≡ t → (ls : List (List ℕ)) (bs : List ℕ) →
    fed (begun b ls) ≡ b ∷ bs → fed ls ≡ bs → fed (cond t (begun b ls) ([] ∷ ls)) ≡ b ∷ bs
whole_if b true e ls bs h k = h
whole_if b false e ls bs h k = ap (λ c. c ∷ fed ls) (feed_is b e) ∙ ap (λ cs. b ∷ cs) k

last_if : (b : ℕ) (t : Bool) → in_line b ≡ t → fed (cond t (begun b []) ([] ∷ [])) ≡ cond t (b ∷ 10 ∷ []) (b ∷ [])
last_if b true e = refl
last_if b false e = ap (λ c. c ∷ []) (feed_is b e)

wholes : (text : List ℕ) → fed (lines_of text) ≡ completed text
wholes [] = refl
wholes (b ∷ []) = last_if b (in_line b) refl
wholes (b ∷ c ∷ cs) =
    let k = wholes (c ∷ cs) in
    whole_if b (in_line b) refl (lines_of (c ∷ cs)) (completed (c ∷ cs)) (fed_begun b c (lines_of cs) (in_line c) ∙ ap (λ bs. b ∷ bs) k) k

pub lined : (text : List ℕ) → Lined (lines_of text) text
lined text = record { single = singles text; whole = wholes text }

-- NO OTHER LINES DO

fed_line : (l rest : List ℕ) → OneLine l → lines_of (l ++ (10 ∷ rest)) ≡ l ∷ lines_of rest
fed_line [] rest h = refl
fed_line (b ∷ l) rest h = rw h.0 (ap (begun b) (fed_line l rest h.1))

fed_lines : (ls : List (List ℕ)) → AllByRecursion OneLine ls → lines_of (fed ls) ≡ ls
fed_lines [] h = refl
fed_lines (l ∷ ls) h = fed_line l (fed ls) h.0 ∙ ap (λ ms. l ∷ ms) (fed_lines ls h.1)

completed_last : (b : ℕ) (t : Bool) → in_line b ≡ t → lines_of (cond t (b ∷ 10 ∷ []) (b ∷ [])) ≡ lines_of (b ∷ [])
completed_last b true e = rw e
completed_last b false e = refl

completed_lines : (text : List ℕ) → lines_of (completed text) ≡ lines_of text
completed_lines [] = refl
completed_lines (b ∷ []) = completed_last b (in_line b) refl
completed_lines (b ∷ c ∷ cs) = ap (λ ls. cond (in_line b) (begun b ls) ([] ∷ ls)) (completed_lines (c ∷ cs))

pub only : (ls : List (List ℕ)) (text : List ℕ) → Lined ls text → ls ≡ lines_of text
only ls text h = sym (fed_lines ls h.single) ∙ ap lines_of h.whole ∙ completed_lines text

-- THE FIRST LINE

-- the lines, where the first has n bytes and a line feed, if there is one, behind it
abbrev cut : ℕ → List ℕ → List (List ℕ)
cut n text = take n text ∷ lines_of (drop 1 (drop n text))

cut_if :
    (b : ℕ) (bs : List ℕ) (t : Bool) → begun b (lines_of bs) ≡ cut (suc (prefix_len in_line bs)) (b ∷ bs) →
    cond t (begun b (lines_of bs)) ([] ∷ lines_of bs) ≡ cut (cond t (1 + prefix_len in_line bs) 0) (b ∷ bs)
cut_if b bs true h = rw (one-add (prefix_len in_line bs)) h
cut_if b bs false h = refl

first_line : (b : ℕ) (bs : List ℕ) → lines_of (b ∷ bs) ≡ cut (prefix_len in_line (b ∷ bs)) (b ∷ bs)
first_line b [] = cut_if b [] (in_line b) refl
first_line b (c ∷ cs) = cut_if b (c ∷ cs) (in_line b) (ap (begun b) (first_line c cs))

-- what is read of a text with no byte in it, and of one with some
pub read_none : (text : List ℕ) → length text ≡ 0 → LineRead text None text
read_none text none = let nil = nil_from_length text none in record { lines = refl; cases = (nil, nil) }

pub read_line :
    (text line rest : List ℕ) (n : ℕ) → 0 < length text → n ≡ prefix_len in_line text → line ≡ take n text →
    rest ≡ drop 1 (drop n text) → LineRead text (Some line) rest
read_line [] line rest n h e l r = absurd (omega arith)
read_line (b ∷ bs) line rest n h e l r =
    record {
      lines = rw (l, r, e) (first_line b bs);
      cases = rw r (simp (length-drop) (omega arith));
    }
