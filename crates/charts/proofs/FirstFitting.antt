-- Where the lines lead is a step along the first fitting move line, and a step leads there.
use Rattle.std.proofs.Common.{◌≡◌, ℕ, zero, suc, ◌<◌, true, false, List, [], ◌∷◌, Some, sym, refl, ap, ◌∙◌, ⊎_elim, arith}
use Rattle.std.proofs.lemmas.Bool.{and_parts, and_from, cases_Bool, cond-true, cond-false, eq-eqb, eqb-true, both_ways}
use Rattle.std.specs.List.{slice_get}
use Rattle.masks.specs.Bits.{bit}
use Rattle.charts.specs.Lines.{fits, leads_to}
use Rattle.charts.specs.Paths.{Step}
use Rattle.charts.specs.declared.line.Line.{Line}
use Rattle.charts.specs.declared.line.Line.TheVariants.{Move, End}

-- A line that is no fitting move line.
abbrev PassedOver : Line → ℕ → ℕ → ℕ → Type 0
PassedOver line from s a = (other target : ℕ) → line ≡ Move from other a target → bit s other ≡ false

-- A line that does not fit may stand in front of a step.
passed : (line : Line) (lines : List Line) (from s a to : ℕ) → PassedOver line from s a → Step lines from s a to → Step (line ∷ lines) from s a to
passed line lines from s a to over step = record {
  place = suc step.place;
  mask = step.mask;
  stands = step.stands;
  in_mask = step.in_mask;
  first = earlier;
} where
  earlier : (e other target : ℕ) → e < suc step.place → slice_get (line ∷ lines) e ≡ Some (Move from other a target) → bit s other ≡ false
  earlier zero other target h is = let same : line ≡ Move from other a target = cc in over other target same
  earlier (suc e) other target h is = step.first e other target (omega arith) is

-- A move line that does not fit is passed over.
unfit_over : (source mask action target from s a : ℕ) → fits source mask action from s a ≡ false → PassedOver (Move source mask action target) from s a
unfit_over source mask action target from s a unfit other there is =
    let es : source ≡ from = cc in
    let em : mask ≡ other = cc in
    let ea : action ≡ a = cc in
    ⊎_elim
    (λ (yes' : bit s other ≡ true). absurd (both_ways (fits source mask action from s a) unfit
    (and_from _ _ (eq-eqb source from es) (and_from _ _ (ap (bit s) em ∙ yes') (eq-eqb action a ea)))))
    (λ (no' : bit s other ≡ false). no')
    (cases_Bool (bit s other))

-- An end line is passed over.
end_over : (at mask from s a : ℕ) → PassedOver (End at mask) from s a
end_over at mask from s a other target is = let never : ◌≡◌ {A = ℕ} 0 1 = cc in absurd (omega arith)

-- A fitting move line is a step by itself.
fitting_step : (source mask action target : ℕ) (lines : List Line) (from s a to : ℕ) → fits source mask action from s a ≡ true → target ≡ to → Step (Move source mask action target ∷ lines) from s a to
fitting_step source mask action target lines from s a to fit et =
    let all = and_parts _ _ fit in
    let rest = and_parts _ _ all.1 in
    let es : source ≡ from = eqb-true _ _ all.0 in
    let ea : action ≡ a = eqb-true _ _ rest.1 in
    record {
      place = 0;
      mask = mask;
      stands = λ i. Some (Move (es i) mask (ea i) (et i));
      in_mask = rest.0;
      first = λ earlier other there h is. absurd (omega arith);
    }

-- Where the lines lead, short of 255, there is a step.
pub leads_step : (lines : List Line) (from s a to : ℕ) → leads_to lines from s a ≡ to → to < 255 → Step lines from s a to
leads_step [] from s a to is short = absurd (omega arith)
leads_step (Move source mask action target ∷ lines) from s a to is short =
    ⊎_elim
    (λ (fit : fits source mask action from s a ≡ true).
    fitting_step source mask action target lines from s a to fit (sym (cond-true _ target (leads_to lines from s a) fit) ∙ is))
    (λ (unfit : fits source mask action from s a ≡ false).
    passed (Move source mask action target) lines from s a to (unfit_over source mask action target from s a unfit)
    (leads_step lines from s a to (sym (cond-false _ target (leads_to lines from s a) unfit) ∙ is) short))
    (cases_Bool (fits source mask action from s a))
leads_step (End at mask ∷ lines) from s a to is short = passed (End at mask) lines from s a to (end_over at mask from s a) (leads_step lines from s a to is short)

-- A move line that is passed over does not fit.
over_unfit : (source mask action target from s a : ℕ) → PassedOver (Move source mask action target) from s a → fits source mask action from s a ≡ false
over_unfit source mask action target from s a over =
    ⊎_elim
    (λ (fit : fits source mask action from s a ≡ true).
    let all = and_parts _ _ fit in
    let rest = and_parts _ _ all.1 in
    let es : source ≡ from = eqb-true _ _ all.0 in
    let ea : action ≡ a = eqb-true _ _ rest.1 in
    absurd (both_ways (bit s mask) (over mask target (λ i. Move (es i) mask (ea i) target)) rest.0))
    (λ (unfit : fits source mask action from s a ≡ false). unfit)
    (cases_Bool (fits source mask action from s a))

-- The lines lead along the first fitting move line, whose place is known.
first_leads : (lines : List Line) (place mask from s a to : ℕ) → slice_get lines place ≡ Some (Move from mask a to) → bit s mask ≡ true → ((e other target : ℕ) → e < place → slice_get lines e ≡ Some (Move from other a target) → bit s other ≡ false) → leads_to lines from s a ≡ to
first_leads [] place mask from s a to is has first = let never : ◌≡◌ {A = ℕ} 0 1 = cc in absurd (omega arith)
first_leads (line ∷ lines) zero mask from s a to is has first =
    let same : line ≡ Move from mask a to = cc in
    ap (λ l. leads_to (l ∷ lines) from s a) same
    ∙ cond-true _ to (leads_to lines from s a) (and_from _ _ (eq-eqb from from refl) (and_from _ _ has (eq-eqb a a refl)))
first_leads (Move source mask₁ action target ∷ lines) (suc place) mask from s a to is has first =
    cond-false _ target (leads_to lines from s a) (over_unfit source mask₁ action target from s a (λ other there e. first 0 other there (omega arith) (ap Some e)))
    ∙ first_leads lines place mask from s a to is has (λ e other there h. first (suc e) other there (omega arith))
first_leads (End at mask₁ ∷ lines) (suc place) mask from s a to is has first = first_leads lines place mask from s a to is has (λ e other there h. first (suc e) other there (omega arith))

-- The lines lead where a step goes.
pub step_leads : (lines : List Line) (from s a to : ℕ) → Step lines from s a to → leads_to lines from s a ≡ to
step_leads lines from s a to step = first_leads lines step.place step.mask from s a to step.stands step.in_mask step.first
