-- A granted chart allows exactly the runs along its lines.
use Rattle.std.proofs.Common.{◌≡◌, ℕ, zero, suc, ◌+◌, ◌<◌, ◌≤◌, Bool, true, false, cond, ltb, List, [], ◌∷◌, Some, None, Option, sym, refl, ap, ◌∙◌, subst, ⊎_elim, arith}
use Rattle.std.proofs.lemmas.Bool.{and_parts, and_from, cases_Bool, cases_lt, cond-true, cond-false, lt-ltb, le-ltb, leb-true, both_ways}
use Rattle.std.specs.Option.{option_map}
use Rattle.std.specs.List.{slice_get}
use Rattle.masks.specs.Bits.{bit}
use Rattle.masks.proofs.Operations.{bit_zero}
use Rattle.runs.specs.Runs as runs
use Rattle.runs.specs.Flows.{after}
use Rattle.charts.specs.Lines.{leads_to, ends_at}
use Rattle.charts.specs.Charts.{chart_meaning}
use Rattle.charts.specs.Limits.{line_within, first_beyond, within_limits, unless, chart_of}
use Rattle.charts.specs.Paths.{Step, Path, MayEnd, AllowsRunsAlong}
use Rattle.charts.specs.declared.line.Line.{Line}
use Rattle.charts.specs.declared.line.Line.TheVariants.{Move, End}
use Rattle.charts.specs.declared.fault.ChartFault.TheVariants.{BeyondLimits, LineBeyond}
use Rattle.charts.proofs.Within.{move_within, end_within}
use Rattle.charts.proofs.FirstFitting.{leads_step, step_leads}
use Rattle.charts.proofs.Ending.{bit_may_end, may_end_bit}

-- Where no line is beyond, the first is within and no later one is beyond.
first_within : (n k states place : ℕ) (line : Line) (lines : List Line) → first_beyond n k states place (line ∷ lines) ≡ None → (line_within n k states line ≡ true) × (first_beyond n k states (place + 1) lines ≡ None)
first_within n k states place line lines none =
    ⊎_elim
    (λ (inside : line_within n k states line ≡ true).
    (inside, sym (cond-true _ (first_beyond n k states (place + 1) lines) (Some place) inside) ∙ none))
    (λ (beyond : line_within n k states line ≡ false).
    let told = sym (cond-false _ (first_beyond n k states (place + 1) lines) (Some place) beyond) ∙ none in
    let never : ◌≡◌ {A = ℕ} 0 1 = cc in absurd (omega arith))
    (cases_Bool (line_within n k states line))

-- So each is within.
all_within : (n k states place : ℕ) (lines : List Line) → first_beyond n k states place lines ≡ None → (i : ℕ) (line : Line) → slice_get lines i ≡ Some line → line_within n k states line ≡ true
all_within n k states place [] none i line is = let never : ◌≡◌ {A = ℕ} 0 1 = cc in absurd (omega arith)
all_within n k states place (head ∷ lines) none zero line is =
    let same : head ≡ line = cc in
    subst (λ l. line_within n k states l ≡ true) same (first_within n k states place head lines none).0
all_within n k states place (head ∷ lines) none (suc i) line is = all_within n k states (place + 1) lines (first_within n k states place head lines none).1 i line is

-- Inside the counts the lines say what comes next.
next_inside : (n k states : ℕ) (lines : List Line) (code s a : ℕ) → s < n → a < k → (chart_meaning n k states lines).next code s a ≡ cond (ltb code states) (leads_to lines code s a) 255
next_inside n k states lines code s a h g = cond-true _ (cond (ltb code states) (leads_to lines code s a) 255) code (and_from _ _ (lt-ltb s n h) (lt-ltb a k g))

-- From a code that is no state, moves lead to no state.
stays_outside : (n k states : ℕ) (lines : List Line) → states ≤ 255 → (code : ℕ) (moves : List runs.Move) → runs.MovesWithin n k moves → states ≤ code → states ≤ after (chart_meaning n k states lines) code moves
stays_outside n k states lines few code [] within past = past
stays_outside n k states lines few code (move ∷ moves) within past =
    let flow = chart_meaning n k states lines in
    let gone : flow.next code move.situation move.action ≡ 255 =
    next_inside n k states lines code move.situation move.action within.0 within.1 ∙ cond-false _ (leads_to lines code move.situation move.action) 255 (le-ltb code states past) in
    let still : states ≤ flow.next code move.situation move.action = subst (λ c. states ≤ c) (sym gone) few in
    stays_outside n k states lines few (flow.next code move.situation move.action) moves within.2 still

-- What ends in an accepted situation is at a state, at which it may end.
ends_at_state : (n k states : ℕ) (lines : List Line) (code s : ℕ) → bit s ((chart_meaning n k states lines).accept code) ≡ true → (code < states) × MayEnd lines code s
ends_at_state n k states lines code s h =
    ⊎_elim
    (λ (inside : code < states).
    (inside, bit_may_end lines code s (sym (ap (bit s) (cond-true _ (ends_at lines code) 0 (lt-ltb code states inside))) ∙ h)))
    (λ (past : states ≤ code).
    absurd (both_ways (bit s 0) (bit_zero s) (sym (ap (bit s) (cond-false _ (ends_at lines code) 0 (le-ltb code states past))) ∙ h)))
    (cases_lt code states)

-- The code that a move leads to, where it is a state, is a step away.
next_step : (n k states : ℕ) (lines : List Line) → states ≤ 255 → (code s a : ℕ) → s < n → a < k → (chart_meaning n k states lines).next code s a < states → Step lines code s a ((chart_meaning n k states lines).next code s a)
next_step n k states lines few code s a h g inside =
    let flow = chart_meaning n k states lines in
    let next = next_inside n k states lines code s a h g in
    ⊎_elim
    (λ (here : code < states). leads_step lines code s a (flow.next code s a) (sym (next ∙ cond-true _ (leads_to lines code s a) 255 (lt-ltb code states here))) (omega arith))
    (λ (past : states ≤ code).
    let gone : flow.next code s a ≡ 255 = next ∙ cond-false _ (leads_to lines code s a) 255 (le-ltb code states past) in
    let none : 255 < states = subst (λ c. c < states) gone inside in
    absurd (omega arith))
    (cases_lt code states)

-- Moves to a code that accepts the last situation go along the lines.
allowed_along : (n k states : ℕ) (lines : List Line) → states ≤ 255 → (code : ℕ) (moves : List runs.Move) (last : ℕ) → runs.MovesWithin n k moves → bit last ((chart_meaning n k states lines).accept (after (chart_meaning n k states lines) code moves)) ≡ true → (end : ℕ) × Path lines code moves end × MayEnd lines end last
allowed_along n k states lines few code [] last within h = (code, refl, (ends_at_state n k states lines code last h).1)
allowed_along n k states lines few code (move ∷ moves) last within h =
    let flow = chart_meaning n k states lines in
    let next = flow.next code move.situation move.action in
    let rest = allowed_along n k states lines few next moves last within.2 h in
    ⊎_elim
    (λ (inside : next < states). (rest.0, (next, next_step n k states lines few code move.situation move.action within.0 within.1 inside, rest.1), rest.2))
    (λ (past : states ≤ next).
    let out = stays_outside n k states lines few next moves within.2 past in
    let in' = (ends_at_state n k states lines (after flow next moves) last h).0 in
    absurd (omega arith))
    (cases_lt next states)

-- Moves along the lines to a state at which a run may end in the last situation lead to a code that accepts it.
along_allowed : (n k states : ℕ) (lines : List Line) → ((i : ℕ) (line : Line) → slice_get lines i ≡ Some line → line_within n k states line ≡ true) → (code : ℕ) (moves : List runs.Move) (end last : ℕ) → runs.MovesWithin n k moves → Path lines code moves end → MayEnd lines end last → bit last ((chart_meaning n k states lines).accept (after (chart_meaning n k states lines) code moves)) ≡ true
along_allowed n k states lines all code [] end last within is ends =
    let inside = (end_within n k states (End end ends.mask) end ends.mask refl (all ends.place (End end ends.mask) ends.stands)).state in
    ap (λ c. bit last ((chart_meaning n k states lines).accept c)) is
    ∙ ap (bit last) (cond-true _ (ends_at lines end) 0 (lt-ltb end states inside))
    ∙ may_end_bit lines end last ends
along_allowed n k states lines all code (move ∷ moves) end last within path ends =
    let s = move.situation in
    let a = move.action in
    let step = path.1 in
    let line = Move code step.mask a path.0 in
    let inside = (move_within n k states line code step.mask a path.0 refl (all step.place line step.stands)).source in
    let next : (chart_meaning n k states lines).next code s a ≡ path.0 =
    next_inside n k states lines code s a within.0 within.1 ∙ cond-true _ (leads_to lines code s a) 255 (lt-ltb code states inside) ∙ step_leads lines code s a path.0 step in
    ap (λ c. bit last ((chart_meaning n k states lines).accept (after (chart_meaning n k states lines) c moves))) next
    ∙ along_allowed n k states lines all path.0 moves end last within.2 path.2 ends

-- What is granted allows the runs along its lines, and no others.
pub runs_along : (n k states : ℕ) (lines : List Line) → AllowsRunsAlong n k lines (chart_of n k states lines)
runs_along n k states lines = by_limits (within_limits states lines) refl (first_beyond n k states 0 lines) refl where
  by_limits : (fine : Bool) → within_limits states lines ≡ fine → (beyond : Option ℕ) → first_beyond n k states 0 lines ≡ beyond → AllowsRunsAlong n k lines (unless (cond fine (option_map LineBeyond beyond) (Some BeyondLimits)) (chart_meaning n k states lines))
  by_limits false limits beyond all = tt
  by_limits true limits (Some place) all = tt
  by_limits true limits None all = λ run within.
      let few : states ≤ 255 = leb-true _ _ (and_parts _ _ (and_parts _ _ limits).1).0 in (
        (λ allowed.
            let found = allowed_along n k states lines few 0 run.moves run.last within.0 allowed in
            record { end = found.0; path = found.1; ends = found.2 }),
        (λ along.
            along_allowed n k states lines (all_within n k states 0 lines all) 0 run.moves along.end run.last within.0 along.path along.ends),
      )
