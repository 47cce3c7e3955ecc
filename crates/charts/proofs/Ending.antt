-- The joined end masks of a state have a situation exactly when one of its end lines has it.
use Rattle.std.proofs.Common.{◌≡◌, ℕ, zero, suc, true, false, eqb, List, [], ◌∷◌, Some, sym, refl, ap, ◌∙◌, ⊎_elim, arith}
use lib.Bits.{bit_or}
use Rattle.std.proofs.lemmas.Bool.{cases_Bool, cond-true, cond-false, cond_both, eq-eqb, eqb-true, or_cases, or_left, or_right, both_ways}
use Rattle.std.specs.List.{slice_get}
use Rattle.masks.specs.Bits.{bit}
use Rattle.masks.proofs.Operations.{bit-or, bit_zero}
use Rattle.charts.specs.Lines.{ends_at}
use Rattle.charts.specs.Paths.{MayEnd}
use Rattle.charts.specs.declared.line.Line.{Line}
use Rattle.charts.specs.declared.line.Line.TheVariants.{Move, End}

-- What may end still may with a line more in front.
behind : (line : Line) (lines : List Line) (state s : ℕ) → MayEnd lines state s → MayEnd (line ∷ lines) state s
behind line lines state s h = record { place = suc h.place; mask = h.mask; stands = h.stands; in_mask = h.in_mask }

-- A situation of the joined masks is one of an end line.
pub bit_may_end : (lines : List Line) (state s : ℕ) → bit s (ends_at lines state) ≡ true → MayEnd lines state s
bit_may_end [] state s h = absurd (both_ways (bit s 0) (bit_zero s) h)
bit_may_end (Move from mask action to ∷ lines) state s h = behind (Move from mask action to) lines state s (bit_may_end lines state s h)
bit_may_end (End at mask ∷ lines) state s h =
    let later : bit s (ends_at lines state) ≡ true → MayEnd (End at mask ∷ lines) state s = λ b. behind (End at mask) lines state s (bit_may_end lines state s b) in
    ⊎_elim
    (λ (its : eqb at state ≡ true).
    let es : at ≡ state = eqb-true at state its in
    ⊎_elim
    (λ (b : bit s mask ≡ true). record { place = 0; mask = mask; stands = λ i. Some (End (es i) mask); in_mask = b })
    later
    (or_cases _ _ (sym (bit-or s mask (ends_at lines state)) ∙ ap (bit s) (sym (cond-true _ (bit_or mask (ends_at lines state)) (ends_at lines state) its)) ∙ h)))
    (λ (others : eqb at state ≡ false). later (ap (bit s) (sym (cond-false _ (bit_or mask (ends_at lines state)) (ends_at lines state) others)) ∙ h))
    (cases_Bool (eqb at state))

-- A situation of an end line, whose place is known, is one of the joined masks.
end_bit : (lines : List Line) (place mask state s : ℕ) → slice_get lines place ≡ Some (End state mask) → bit s mask ≡ true → bit s (ends_at lines state) ≡ true
end_bit [] place mask state s is has = let never : ◌≡◌ {A = ℕ} 0 1 = cc in absurd (omega arith)
end_bit (line ∷ lines) zero mask state s is has =
    let same : line ≡ End state mask = cc in
    ap (λ l. bit s (ends_at (l ∷ lines) state)) same
    ∙ ap (bit s) (cond-true _ (bit_or mask (ends_at lines state)) (ends_at lines state) (eq-eqb state state refl))
    ∙ bit-or s mask (ends_at lines state)
    ∙ or_left _ _ has
end_bit (Move from mask₁ action to ∷ lines) (suc place) mask state s is has = end_bit lines place mask state s is has
end_bit (End at mask₁ ∷ lines) (suc place) mask state s is has =
    let later = end_bit lines place mask state s is has in
    cond_both (eqb at state) (bit_or mask₁ (ends_at lines state)) (ends_at lines state) (λ x. bit s x ≡ true)
    (λ e. bit-or s mask₁ (ends_at lines state) ∙ or_right _ _ later)
    (λ e. later)

-- Where a run may end, the joined masks say so.
pub may_end_bit : (lines : List Line) (state s : ℕ) → MayEnd lines state s → bit s (ends_at lines state) ≡ true
may_end_bit lines state s h = end_bit lines h.place h.mask state s h.stands h.in_mask
