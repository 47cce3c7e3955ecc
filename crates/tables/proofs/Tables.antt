-- Tables of a term's masks tell the flow of its places.
use Rattle.std.proofs.Common.{◌≡◌, ℕ, ◌^◌, ◌<◌, Bool, true, false, cond, ◌&&◌, ltb, List, [], ◌∷◌, sym, refl, ap, ◌∙◌, ap₂}
use Rattle.std.proofs.lemmas.Bool.{and_parts, ltb-true}
use Rattle.masks.specs.Bits.{bit, bits_below}
use Rattle.masks.proofs.Bits.{bit_of_bits, same_bits}
use Rattle.kat.specs.Places.{Numbered, accepted_at, begins, is_place_of, marked_next, passes, place_flow, places_in, some_remainder}
use Rattle.kat.specs.Terms.{Term}
use Rattle.runs.specs.Flows.{FlowMeaning, Lawful, after, allows}
use Rattle.runs.specs.Runs.{Move, Run}
use Rattle.tables.specs.Remainders.{places_of, some_at}
use Rattle.tables.specs.Tables.{SameOnCodes, TablesOf, next_by, reaches, shares, table_flow}
use Rattle.tables.proofs.Marked.{Seen, any_same, seen_numbered, seen_on_codes, some_marked_lem}

same_when : (b : Bool) (x y z : ℕ) → (b ≡ true → x ≡ y) → cond b x z ≡ cond b y z
same_when true x y z same = same refl
same_when false x y z same = refl

module _ (n k : ℕ) (holds : ℕ → ℕ → Bool) (e : Term) (last : ℕ → ℕ) (next : ℕ → ℕ → ℕ) (own : ℕ → ℕ) (tables : TablesOf n k holds e last next own) where
  -- What is accepted at a code.
  same_accept : (code : ℕ) → Seen code (places_of e) → bits_below (λ s. shares code (last s)) n ≡ accepted_at holds e n code
  same_accept code seen =
      same_bits (λ s. shares code (last s)) (λ s. some_remainder e code (λ f. passes holds f s)) n (λ s h.
      any_same (λ p. bit p code && bit p (last s)) (λ p. bit p code && some_at p (λ r. passes holds r s) (places_of e)) 64
      (λ p lt. ap (λ b. bit p code && b) (ap (bit p) (tables.lasts s h) ∙ bit_of_bits (λ p. some_at p (λ r. passes holds r s) (places_of e)) 64 p lt))
      ∙ sym (some_marked_lem code (λ f. passes holds f s) (places_of e) seen))

  -- The next code.
  same_marks : (code s a : ℕ) → s < n → a < k → Seen code (places_of e) → next_by (next s) (own a) code ≡ marked_next holds e code s a
  same_marks code s a h k seen =
      same_bits (λ q. bit q (own a) && reaches (next s) code q) (λ q. is_place_of a q (places_in e) && some_remainder e code (λ f. begins holds f s q)) 64 (λ q lt.
      ap₂ ◌&&◌ (ap (bit q) (tables.owns a k) ∙ bit_of_bits (λ q. is_place_of a q (places_in e)) 64 q lt)
      (any_same (λ p. bit p code && bit q (next s p)) (λ p. bit p code && some_at p (λ r. begins holds r s q) (places_of e)) 64
      (λ p lt'. ap (λ b. bit p code && b) (ap (bit q) (tables.nexts s p h lt') ∙ bit_of_bits (λ q. some_at p (λ r. begins holds r s q) (places_of e)) 64 q lt))
      ∙ sym (some_marked_lem code (λ f. begins holds f s q) (places_of e) seen)))

  same_next : (code s a : ℕ) → Seen code (places_of e) → (table_flow n k last next own).next code s a ≡ cond (ltb s n && ltb a k) (marked_next holds e code s a) code
  same_next code s a seen =
      same_when (ltb s n && ltb a k) (next_by (next s) (own a) code) (marked_next holds e code s a) code (λ yes.
      let both = and_parts (ltb s n) (ltb a k) yes in
      same_marks code s a (ltb-true s n both.0) (ltb-true a k both.1) seen)

  -- On codes of 64 bits, whatever numbers the places have.
  pub same_on_codes : SameOnCodes (table_flow n k last next own) (place_flow n k holds e)
  unfolding place_flow
  same_on_codes = record {
    situations = refl;
    actions = refl;
    start = refl;
    accept = λ code h. same_accept code (seen_on_codes code h (places_of e));
    next = λ code s a h. same_next code s a (seen_on_codes code h (places_of e));
  }

  -- On all codes, where the places are numbered in the order of the text.
  pub same_numbered : Numbered e → table_flow n k last next own ≡ place_flow n k holds e
  unfolding place_flow
  same_numbered numbered = λ i. record {
    situations = n;
    actions = k;
    start = 1;
    accept = λ code. same_accept code (seen_numbered code e numbered) i;
    next = λ code s a. same_next code s a (seen_numbered code e numbered) i;
  }

-- From the same code the same moves lead to the same code, since codes stay within 64 bits.
same_after : (f g : FlowMeaning) → Lawful f → SameOnCodes f g → (code : ℕ) (moves : List Move) → code < 2 ^ 64 → (after f code moves < 2 ^ 64) × (after f code moves ≡ after g code moves)
same_after f g lawful same code [] h = (h, refl)
same_after f g lawful same code (move ∷ moves) h =
    let on = same_after f g lawful same (f.next code move.situation move.action) moves (lawful.next_fits code move.situation move.action h) in
    (on.0, on.1 ∙ ap (λ code. after g code moves) (same.next code move.situation move.action h))

-- So flows that are the same on codes allow the same runs.
pub same_runs : (f g : FlowMeaning) → Lawful f → SameOnCodes f g → (run : Run) → allows f run ≡ allows g run
same_runs f g lawful same run =
    let on = same_after f g lawful same f.start run.moves lawful.start_fits in
    ap (bit run.last) (same.accept (after f f.start run.moves) on.0
    ∙ ap g.accept (on.1 ∙ ap (λ code. after g code run.moves) same.start))
