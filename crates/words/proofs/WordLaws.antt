-- The words of a line are what parts it, and its first word stands behind the blanks that it begins with.
use Rattle.std.proofs.Common.{◌≡◌, ℕ, ◌+◌, ◌<◌, Bool, true, false, cond, not, ◌⊎◌, List, [], ◌∷◌, ◌++◌, length, take, drop, Some, None, sym, refl, ap, ◌∙◌, subst, inl, inr, one-add, arith, length-drop}
use Rattle.std.proofs.lemmas.List.{length-take-le, nil_from_length}
use Rattle.std.proofs.lemmas.List.Sums.{prefix_len-le-length}
use Rattle.std.proofs.lemmas.Bool.{not-true}
use Rattle.std.specs.List.{prefix_len}
use Rattle.words.specs.Words.{blank, in_word, before, words_from, words_of, Blanks, Plain, Ends, Parted, past_blanks, past_word, WordRead}

-- a blank in front changes no word, and a byte that is none goes before the first word
from_blank : (b : ℕ) (bs : List ℕ) → blank b ≡ true → words_from (b ∷ bs) ≡ ([], words_of bs)
from_blank b bs e = rw e

from_plain : (b : ℕ) (bs : List ℕ) → blank b ≡ false → words_from (b ∷ bs) ≡ (b ∷ (words_from bs).0, (words_from bs).1)
from_plain b bs e = rw e

of_blank : (b : ℕ) (bs : List ℕ) → blank b ≡ true → words_of (b ∷ bs) ≡ words_of bs
of_blank b bs e = ap (λ p. before p.0 p.1) (from_blank b bs e)

before_full : (w : List ℕ) (ws : List (List ℕ)) → 0 < length w → before w ws ≡ w ∷ ws
before_full [] ws h = absurd (omega arith)
before_full (b ∷ w) ws h = refl

-- THE WORDS PART THE LINE

-- the line begins with the word, which may have no byte, and the other words stand behind it
record Begins (line word : List ℕ) (others : List (List ℕ)) : Type 0 where
  rest : List ℕ
  whole : line ≡ word ++ rest
  plain : Plain word
  ends : Ends rest
  parted : Parted others rest

behind_blank : (b : ℕ) (line : List ℕ) (ws : List (List ℕ)) → blank b ≡ true → Parted ws line → Parted ws (b ∷ line)
behind_blank b line [] e p = (e, p)
behind_blank b line (w ∷ ws) e p =
    let f = p.1 in
    (p.0, record { gap = b ∷ f.gap; whole = ap (λ bs. b ∷ bs) f.whole; blanks = (e, f.blanks); full = f.full; plain = f.plain; ends = f.ends }, p.2)

parted_by : (line word : List ℕ) (others : List (List ℕ)) → Begins line word others → Parted (before word others) line
parted_by line [] others h = subst (Parted others) (sym h.whole) h.parted
parted_by line (b ∷ w) others h =
    (h.rest, record { gap = []; whole = h.whole; blanks = tt; full = omega arith; plain = h.plain; ends = h.ends }, h.parted)

begins_at :
    (b : ℕ) (bs : List ℕ) (t : Bool) → blank b ≡ t → Begins bs (words_from bs).0 (words_from bs).1 →
    Begins (b ∷ bs) (words_from (b ∷ bs)).0 (words_from (b ∷ bs)).1
begins_at b bs true e h =
    subst (λ p. Begins (b ∷ bs) p.0 p.1) (sym (from_blank b bs e))
    record { rest = b ∷ bs; whole = refl; plain = tt; ends = e; parted = behind_blank b bs (words_of bs) e (parted_by bs (words_from bs).0 (words_from bs).1 h) }
begins_at b bs false e h =
    subst (λ p. Begins (b ∷ bs) p.0 p.1) (sym (from_plain b bs e))
    record { rest = h.rest; whole = ap (λ cs. b ∷ cs) h.whole; plain = (ap not e, h.plain); ends = h.ends; parted = h.parted }

begins : (bs : List ℕ) → Begins bs (words_from bs).0 (words_from bs).1
begins [] = record { rest = []; whole = refl; plain = tt; ends = tt; parted = tt }
begins (b ∷ bs) = begins_at b bs (blank b) refl (begins bs)

pub parted : (line : List ℕ) → Parted (words_of line) line
parted line = parted_by line (words_from line).0 (words_from line).1 (begins line)

-- NO OTHER WORDS DO

of_blanks : (gap rest : List ℕ) → Blanks gap → words_of (gap ++ rest) ≡ words_of rest
of_blanks [] rest h = refl
of_blanks (b ∷ gap) rest h = of_blank b (gap ++ rest) h.0 ∙ of_blanks gap rest h.1

blanks_none : (line : List ℕ) → Blanks line → [] ≡ words_of line
blanks_none [] h = refl
blanks_none (b ∷ bs) h = blanks_none bs h.1 ∙ sym (of_blank b bs h.0)

from_end : (rest : List ℕ) → Ends rest → words_from rest ≡ ([], words_of rest)
from_end [] h = refl
from_end (b ∷ bs) h = from_blank b bs h ∙ ap (λ ws. ([], ws)) (sym (of_blank b bs h))

from_word : (w rest : List ℕ) → Plain w → Ends rest → words_from (w ++ rest) ≡ (w, words_of rest)
from_word [] rest p h = from_end rest h
from_word (b ∷ w) rest p h = from_plain b (w ++ rest) (not-true (blank b) p.0) ∙ ap (λ q. (b ∷ q.0, q.1)) (from_word w rest p.1 h)

pub only : (ws : List (List ℕ)) (line : List ℕ) → Parted ws line → ws ≡ words_of line
only [] line h = blanks_none line h
only (w ∷ ws) line h =
    let f = h.1 in
    let rest = h.0 in
    ap (λ vs. w ∷ vs) (only ws rest h.2)
    ∙ sym (before_full w (words_of rest) f.full)
    ∙ sym (ap (λ p. before p.0 p.1) (from_word w rest f.plain f.ends))
    ∙ sym (of_blanks f.gap (w ++ rest) f.blanks)
    ∙ sym (ap words_of f.whole)

-- THE FIRST WORD

-- what is left behind the blanks, where the test of the first byte is known
abbrev skip : Bool → ℕ → List ℕ → List ℕ
skip t b bs = drop (cond t (1 + prefix_len blank bs) 0) (b ∷ bs)

skip_at : (b : ℕ) (bs : List ℕ) (t : Bool) → blank b ≡ t → words_of bs ≡ words_of (past_blanks bs) → words_of (b ∷ bs) ≡ words_of (skip t b bs)
skip_at b bs true e h = of_blank b bs e ∙ rw (one-add (prefix_len blank bs)) h
skip_at b bs false e h = refl

skip_blanks : (line : List ℕ) → words_of line ≡ words_of (past_blanks line)
skip_blanks [] = refl
skip_blanks (b ∷ bs) = skip_at b bs (blank b) refl (skip_blanks bs)

-- past the blanks there is nothing, or a word
abbrev NoneOrWord : List ℕ → Type 0
NoneOrWord left = (left ≡ []) ⊎ (0 < prefix_len in_word left)

stops_at : (b : ℕ) (bs : List ℕ) (t : Bool) → blank b ≡ t → NoneOrWord (past_blanks bs) → NoneOrWord (skip t b bs)
stops_at b bs true e h = rw (one-add (prefix_len blank bs)) h
stops_at b bs false e h = inr (rw e (omega arith))

stops : (line : List ℕ) → NoneOrWord (past_blanks line)
stops [] = inl refl
stops (b ∷ bs) = stops_at b bs (blank b) refl (stops bs)

-- n bytes as a word, and the words behind them
abbrev cut : ℕ → List ℕ → (List ℕ) × (List (List ℕ))
cut n bs = (take n bs, words_of (drop n bs))

cut_at :
    (b : ℕ) (bs : List ℕ) (t : Bool) → blank b ≡ t → words_from bs ≡ cut (prefix_len in_word bs) bs →
    words_from (b ∷ bs) ≡ cut (cond (not t) (1 + prefix_len in_word bs) 0) (b ∷ bs)
cut_at b bs true e h = from_blank b bs e ∙ ap (λ ws. ([], ws)) (sym (of_blank b bs e))
cut_at b bs false e h = from_plain b bs e ∙ ap (λ p. (b ∷ p.0, p.1)) h ∙ rw (one-add (prefix_len in_word bs))

from_is : (bs : List ℕ) → words_from bs ≡ cut (prefix_len in_word bs) bs
from_is [] = refl
from_is (b ∷ bs) = cut_at b bs (blank b) refl (from_is bs)

first_word : (line : List ℕ) → let left = past_blanks line in words_of line ≡ before (take (prefix_len in_word left) left) (words_of (past_word line))
first_word line = skip_blanks line ∙ ap (λ p. before p.0 p.1) (from_is (past_blanks line))

-- what is read of a line, where `left` is what is left of it behind m blanks, and begins with n bytes of a word
module _
    (line left word rest : List ℕ) (m n : ℕ) (skipped : m ≡ prefix_len blank line) (past : left ≡ drop m line) (long : n ≡ prefix_len in_word left)
    (is : word ≡ take n left) (behind : rest ≡ drop n left) where
  past_is : left ≡ past_blanks line
  past_is = past ∙ ap (λ k. drop k line) skipped

  rest_is : rest ≡ past_word line
  rest_is = behind ∙ ap (λ k. drop k left) long ∙ ap (λ bs. drop (prefix_len in_word bs) bs) past_is

  words_are : words_of line ≡ before word (words_of rest)
  words_are = cc (first_word line, past_is, rest_is)

  word_long : length word ≡ n
  word_long = ap length is ∙ length-take-le n left (omega (arith, prefix_len-le-length in_word left))

  pub read_word : 0 < length word → WordRead line (Some word) rest
  read_word h =
      record {
        words = words_are ∙ before_full word (words_of rest) h;
        behind = rest_is;
        cases = omega (arith, word_long, simp length-drop at (ap length behind), simp length-drop at (ap length past), prefix_len-le-length in_word left);
      }

  none_left : length word ≡ 0 → past_blanks line ≡ []
  none_left h =
      elim (stops line) [
        | inl e ↦ e
        | inr some ↦ absurd (omega (arith, word_long, long, ap (prefix_len in_word) past_is))
      ]

  pub read_none : length word ≡ 0 → WordRead line None rest
  read_none h =
      record {
        words = words_are ∙ ap (λ w. before w (words_of rest)) (nil_from_length word h);
        behind = rest_is;
        cases = (skip_blanks line ∙ ap words_of (none_left h), rest_is ∙ ap (λ bs. drop (prefix_len in_word bs) bs) (none_left h));
      }
