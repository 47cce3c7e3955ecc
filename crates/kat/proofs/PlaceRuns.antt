-- The flow of a term's places allows exactly the runs of the term: a code stands for the runs of the remainders that it
-- marks, and a move leads to the code of what is left of them.
use Rattle.std.proofs.Common.{◌≡◌, ℕ, ◌<◌, Bool, true, ◌&&◌, List, [], ◌∷◌, sym, refl, ap, ◌∙◌, subst, inl, inr, arith}
use Rattle.std.proofs.lemmas.Bool.{and_parts, and_from, cond-true, eqb-true, lt-ltb}
use Rattle.masks.specs.Bits.{bit}
use Rattle.masks.proofs.Bits.{bit_of_bits}
use Rattle.masks.proofs.Operations.{bit_pow}
use Rattle.runs.specs.Flows.{FlowMeaning, after, allows}
use Rattle.runs.specs.Runs.{Move, MovesWithin, Run, Within, single}
use Rattle.kat.specs.Algebra.{Allowed}
use Rattle.kat.specs.Laws.{Holds}
use Rattle.kat.specs.Places.{Numbered, Place, accepted_at, begins, is_place_of, marked_next, passes, place_flow, places_in, some_remainder}
use Rattle.kat.specs.Terms.{Term}
use Rattle.kat.specs.Theorems.{PlacesAllowTheRuns}
use Rattle.kat.proofs.Among.{Among}
use Rattle.kat.proofs.Heads.{heads, begun_head, head_begun, allowed_found, found_allowed}
use Rattle.kat.proofs.Joining.{behind, run_of}
use Rattle.kat.proofs.Marks.{marked_place, place_marked, place_of, of_place}
use Rattle.kat.proofs.Numbers.{CountedFrom, counted_from, counted_range, counted_apart}
use Rattle.kat.proofs.Passing.{passes_is_allowed}
use Rattle.kat.proofs.Remainders.{heads_places, remainder_places}

module _ (n k : ℕ) (holds : Holds) (e : Term) (numbered : Numbered e) where
  -- Place 0, whose remainder is the whole term, and then the places of the term.
  abbrev whole : List Place
  whole = record { number = 0; action = 0; remainder = e } ∷ places_in e

  -- These are numbered from 0 on.
  counted : CountedFrom 0 whole
  counted = (refl, counted_from 1 (places_in e) numbered.in_text_order)

  -- Each number fits a code of 64 bits.
  number_fits : (p : Place) → Among p whole → p.number < 64
  number_fits p i = let r = counted_range 0 whole counted p i in omega (arith, r.1, numbered.few)

  -- What the remainder of a place begins with is a place.
  follows : (p : Place) → Among p whole → (s : ℕ) (h : Place) → Among h (heads holds p.remainder s) → Among h (places_in e)
  follows p (inl q) s h j = heads_places holds e s h (subst (λ (x : Place). Among h (heads holds x.remainder s)) q j)
  follows p (inr i) s h j = remainder_places holds e p i s h j

  -- The runs that a code stands for: those of a marked remainder.
  abbrev From : ℕ → Run → Type 0
  From code run = (p : Place) × Among p whole × (bit p.number code ≡ true) × Allowed holds p.remainder run

  -- A code accepts the situations that it stands for.
  accepts : (code s : ℕ) → s < n
      → (bit s (accepted_at holds e n code) ≡ true → From code (single s)) × (From code (single s) → bit s (accepted_at holds e n code) ≡ true)
  accepts code s l =
      let asked = λ (f : Term). passes holds f s in
      let told = bit_of_bits (λ r. some_remainder e code (λ f. passes holds f r)) n s l in (
        λ h.
            let r = marked_place code asked whole (sym told ∙ h) in
            (r.0, r.1, r.2, (passes_is_allowed holds r.0.remainder s).0 r.3),
        λ f. told ∙ place_marked code asked whole f.0 f.1 f.2 ((passes_is_allowed holds f.0.remainder s).1 f.3),
      )

  -- What the next code asks of a number.
  abbrev marks : ℕ → Move → ℕ → Bool
  marks code m q = is_place_of m.action q (places_in e) && some_remainder e code (λ f. begins holds f m.situation q)

  -- What the next code stands for is what the code stands for behind the move.
  next_back : (code : ℕ) (m : Move) (run : Run) → From (marked_next holds e code m.situation m.action) run → From code (behind m run)
  next_back code m run (p, i, marked, l) =
      let q = p.number in
      let both = and_parts (is_place_of m.action q (places_in e)) (some_remainder e code (λ f. begins holds f m.situation q))
      (sym (bit_of_bits (marks code m) 64 q (number_fits p i)) ∙ marked) in
      let o = place_of m.action q (places_in e) both.0 in
      let does : p.action ≡ m.action = ap (λ (x : Place). x.action) (counted_apart 0 whole counted p o.0 i (inr o.1) (sym o.2)) ∙ o.3 in
      let r = marked_place code (λ f. begins holds f m.situation q) whole both.1 in
      let h = begun_head holds r.0.remainder m.situation q r.3 in
      let same : p ≡ h.0 = counted_apart 0 whole counted p h.0 i (inr (follows r.0 r.1 m.situation h.0 h.1)) (sym h.2) in
      let does' : h.0.action ≡ m.action = ap (λ (x : Place). x.action) (sym same) ∙ does in
      let l' = subst (λ (x : Place). Allowed holds x.remainder run) same l in
      (r.0, r.1, r.2, found_allowed holds r.0.remainder m h.0 h.1 does' run l')

  -- And back.
  next_forth : (code : ℕ) (m : Move) (run : Run) → From code (behind m run) → From (marked_next holds e code m.situation m.action) run
  next_forth code m run (p, i, marked, l) =
      let h = allowed_found holds p.remainder m run l in
      let there = follows p i m.situation h.0 h.1 in
      let q = h.0.number in
      let begun = head_begun holds p.remainder m.situation h.0 h.1 in
      let some = place_marked code (λ f. begins holds f m.situation q) whole p i marked begun in
      let asks = and_from _ _ (of_place m.action (places_in e) h.0 there h.2) some in
      (h.0, inr there, bit_of_bits (marks code m) 64 q (number_fits h.0 (inr there)) ∙ asks, h.3)

  -- The flow of the places, and what its parts are within range.
  abbrev flow : FlowMeaning
  flow = place_flow n k holds e

  -- In range a move leads to the next marks.
  next_is : (code : ℕ) (m : Move) → m.situation < n → m.action < k
      → flow.next code m.situation m.action ≡ marked_next holds e code m.situation m.action
  unfolding place_flow
  next_is code m a b = cond-true _ _ _ (and_from _ _ (lt-ltb _ _ a) (lt-ltb _ _ b))

  -- A code accepts where a marked remainder passes.
  accept_is : (code : ℕ) → flow.accept code ≡ accepted_at holds e n code
  unfolding place_flow
  accept_is code = refl

  -- The start code is 1.
  start_is : flow.start ≡ 1
  unfolding place_flow
  start_is = refl

  -- From each code the flow allows the runs that it stands for.
  allows_from : (moves : List Move) (last : ℕ) → MovesWithin n k moves → last < n → (code : ℕ)
      → (bit last (flow.accept (after flow code moves)) ≡ true → From code (run_of moves last))
      × (From code (run_of moves last) → bit last (flow.accept (after flow code moves)) ≡ true)
  allows_from [] last h l code =
      let r = accepts code last l in
      let same = ap (λ x. bit last x) (accept_is code) in
      (λ a. r.0 (sym same ∙ a), λ f. same ∙ r.1 f)
  allows_from (m ∷ moves) last h l code =
      let rest = allows_from moves last h.2 l (flow.next code m.situation m.action) in
      let there = next_is code m h.0 h.1 in (
        λ a. next_back code m (run_of moves last) (subst (λ x. From x (run_of moves last)) there (rest.0 a)),
        λ f. rest.1 (subst (λ x. From x (run_of moves last)) (sym there) (next_forth code m (run_of moves last) f)),
      )

  -- The start marks place 0 alone.
  start_marks : (p : Place) → Among p whole → bit p.number 1 ≡ true → p.remainder ≡ e
  start_marks p i b =
      let zero-th : 0 ≡ p.number = eqb-true 0 p.number (sym (bit_pow 0 p.number) ∙ b) in
      ap (λ (x : Place). x.remainder) (counted_apart 0 whole counted p (record { number = 0; action = 0; remainder = e }) i (inl refl) (sym zero-th))

  -- At the start these are the runs of the term.
  allows_allowed : (run : Run) → Within n k run → (allows flow run ≡ true → Allowed holds e run) × (Allowed holds e run → allows flow run ≡ true)
  allows_allowed run h =
      let r = allows_from run.moves run.last h.0 h.1 flow.start in (
        λ a.
            let f = r.0 a in
            let whole-term = start_marks f.0 f.1 (subst (λ c. bit f.0.number c ≡ true) start_is f.2) in
            subst (λ x. Allowed holds x run) whole-term f.3,
        λ a.
            let marked : bit 0 flow.start ≡ true = ap (λ c. bit 0 c) start_is in
            r.1 (record { number = 0; action = 0; remainder = e }, inl refl, marked, a),
      )

-- The same, for every term and range.
pub places_allow_the_runs : PlacesAllowTheRuns
places_allow_the_runs n k holds e numbered run h = allows_allowed n k holds e numbered run h
