-- The flows that a book keeps are lawful over a lawful sheet: that of any term's places, and that of a chart without a fault.
use Rattle.std.proofs.Common.{◌≡◌, ℕ, ◌+◌, ◌^◌, ◌<◌, ◌≤◌, Bool, true, false, cond, ◌&&◌, eqb, ltb, leb, ◌⊎◌, List, [], ◌∷◌, length, Some, None, Option, refl, ⊎_elim, arith, pow_pos}
use lib.Bits.{bit_or, or_lt}
use Rattle.std.proofs.lemmas.Bool.{and_left, and_parts, and_right, cond_both, cond-false, le-ltb, leb-true}
use Rattle.std.specs.Option.{option_map}
use Rattle.charts.proofs.Within.{end_within, move_within}
use Rattle.charts.specs.Charts.{chart_meaning}
use Rattle.charts.specs.Limits.{chart_fault, first_beyond, line_within, within_limits}
use Rattle.charts.specs.Lines.{ends_at, fits, leads_to}
use Rattle.charts.specs.declared.fault.ChartFault.TheVariants.{BeyondLimits, LineBeyond}
use Rattle.charts.specs.declared.line.Line.{Line}
use Rattle.charts.specs.declared.line.Line.TheVariants.{End, Move}
use Rattle.kat.specs.Places.{begins, is_place_of, marked_next, passes, place_flow, places_in, some_remainder}
use Rattle.kat.specs.Terms.{Term}
use Rattle.masks.proofs.Bits.{bits_fit}
use Rattle.places.specs.Meaning.{places_on}
use Rattle.runs.specs.Flows.{Lawful}
use Rattle.sheet.specs.Laid.{LaidOut}
use Rattle.ledger.specs.Sources.{LawfulSheet}

-- What is asked only within n situations and k actions gives the code back outside.
given_back : (n k s a code next : ℕ) → (n ≤ s) ⊎ (k ≤ a) → cond (ltb s n && ltb a k) next code ≡ code
given_back n k s a code next =
    ⊎_elim
    (λ past. cond-false _ next code (and_left _ _ (le-ltb s n past)))
    (λ past. cond-false _ next code (and_right _ _ (le-ltb a k past)))

-- The flow of the places of any term is lawful: what it accepts and what it marks next are bits below a bound.
pub places_are_lawful : (laid : LaidOut) → LawfulSheet laid → (e : Term) → Lawful (places_on laid e)
unfolding place_flow
places_are_lawful laid lawful e =
    let n = laid.meaning.situations in
    let k = length laid.names.actions in
    let holds = laid.meaning.holds in
    record {
      some = lawful.vocabulary.some;
      most = lawful.vocabulary.most;
      few = lawful.actions;
      start_fits = omega arith;
      next_fits = λ code s a fits.
          cond_both (ltb s n && ltb a k) (marked_next holds e code s a) code (λ x. x < 2 ^ 64)
          (λ inside. bits_fit (λ q. is_place_of a q (places_in e) && some_remainder e code (λ f. begins holds f s q)) 64)
          (λ outside. fits);
      accepts_situations = λ code. bits_fit (λ s. some_remainder e code (λ f. passes holds f s)) n;
      outside = λ code s a. given_back n k s a code (marked_next holds e code s a);
    }

-- Where no line is beyond, the first is within and no later one is beyond.
none_here : (fine : Bool) (place : ℕ) (later : Option ℕ) → cond fine later (Some place) ≡ None → (fine ≡ true) × (later ≡ None)
none_here true place later none = (refl, none)
none_here false place later none = let never : ◌≡◌ {A = ℕ} 0 1 = cc in absurd (omega arith)

-- Where no line is beyond, a run ends in situations among the n.
ends_within : (n k states place : ℕ) (lines : List Line) → first_beyond n k states place lines ≡ None → (state : ℕ) → ends_at lines state < 2 ^ n
ends_within n k states place [] none state = pow_pos n
ends_within n k states place (Move from mask action to ∷ lines) none state =
    ends_within n k states (place + 1) lines (none_here (line_within n k states (Move from mask action to)) place _ none).1 state
ends_within n k states place (End at mask ∷ lines) none state =
    let here = none_here (line_within n k states (End at mask)) place _ none in
    let later = ends_within n k states (place + 1) lines here.1 state in
    cond_both (eqb at state) (bit_or mask (ends_at lines state)) (ends_at lines state) (λ x. x < 2 ^ n)
    (λ its. or_lt n mask (ends_at lines state) (end_within n k states (End at mask) at mask refl here.0).short later)
    (λ other. later)

-- Where no line is beyond, the lines lead to states or to 255.
leads_within : (n k states place : ℕ) (lines : List Line) → states ≤ 255 → first_beyond n k states place lines ≡ None → (state s a : ℕ) → leads_to lines state s a ≤ 255
leads_within n k states place [] few none state s a = omega arith
leads_within n k states place (Move from mask action to ∷ lines) few none state s a =
    let here = none_here (line_within n k states (Move from mask action to)) place _ none in
    let target = (move_within n k states (Move from mask action to) from mask action to refl here.0).target in
    cond_both (fits from mask action state s a) to (leads_to lines state s a) (λ x. x ≤ 255)
    (λ fit. omega arith)
    (λ unfit. leads_within n k states (place + 1) lines few here.1 state s a)
leads_within n k states place (End at mask ∷ lines) few none state s a =
    leads_within n k states (place + 1) lines few (none_here (line_within n k states (End at mask)) place _ none).1 state s a

-- A chart without a fault is within the limits, and none of its lines is beyond.
without_fault : (fine : Bool) (beyond : Option ℕ) → cond fine (option_map LineBeyond beyond) (Some BeyondLimits) ≡ None → (fine ≡ true) × (beyond ≡ None)
without_fault true None none = (refl, refl)
without_fault true (Some place) none = let never : ◌≡◌ {A = ℕ} 0 1 = cc in absurd (omega arith)
without_fault false beyond none = let never : ◌≡◌ {A = ℕ} 0 1 = cc in absurd (omega arith)

-- A chart without a fault is lawful.
pub charts_are_lawful : (laid : LaidOut) → LawfulSheet laid → (states : ℕ) (lines : List Line)
    → chart_fault laid.meaning.situations (length laid.names.actions) states lines ≡ None
    → Lawful (chart_meaning laid.meaning.situations (length laid.names.actions) states lines)
charts_are_lawful laid lawful states lines none =
    let n = laid.meaning.situations in
    let k = length laid.names.actions in
    let fine = without_fault (within_limits states lines) (first_beyond n k states 0 lines) none in
    let few : states ≤ 255 =
    leb-true states 255 (and_parts (leb states 255) (leb (length lines) 256) (and_parts (leb 1 states) (leb states 255 && leb (length lines) 256) fine.0).1).0 in
    record {
      some = lawful.vocabulary.some;
      most = lawful.vocabulary.most;
      few = lawful.actions;
      start_fits = omega arith;
      next_fits = λ code s a fit.
          cond_both (ltb s n && ltb a k) (cond (ltb code states) (leads_to lines code s a) 255) code (λ x. x < 2 ^ 64)
          (λ inside.
          cond_both (ltb code states) (leads_to lines code s a) 255 (λ x. x < 2 ^ 64)
          (λ state. let leads = leads_within n k states 0 lines few fine.1 code s a in omega arith)
          (λ past. omega arith))
          (λ outside. fit);
      accepts_situations = λ code.
          cond_both (ltb code states) (ends_at lines code) 0 (λ x. x < 2 ^ n) (λ state. ends_within n k states 0 lines fine.1 code) (λ past. pow_pos n);
      outside = λ code s a. given_back n k s a code (cond (ltb code states) (leads_to lines code s a) 255);
    }
