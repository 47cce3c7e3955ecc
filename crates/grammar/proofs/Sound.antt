-- The builders build none but what is derived from the signs that they read.
use Rattle.std.proofs.Common.{◌≡◌, ℕ, zero, suc, ◌+◌, ◌-◌, ◌≤◌, Bool, true, false, cond, ◌||◌, eqb, List, [], ◌∷◌, ◌++◌, Some, None, Ok, Err, Option, Result, sym, refl, ap, ◌∙◌, subst, ap₂, arith}
use Rattle.std.proofs.lemmas.Bool.{cond-true, eqb-false, or_from}
use Rattle.sheet.specs.declared.named.Named.{Named}
use Rattle.sheet.specs.declared.named.Named.TheVariants.{Test, Action}
use Rattle.signs.specs.Signs.{Mark, named, skipping, stopping, opening, closing, negating, repeating, following, choosing}
use Rattle.kat.specs.Terms.{Term, act, chain, choice, is_test, not, skip, star, stop, test}
use Rattle.grammar.specs.Derivations.{Choice, one_chain, more_chains, Chain, one_step, more_steps, Step, unit, repeated, plain_signs}
use Rattle.grammar.specs.Derivations.{Unit', a_test, an_action, the_skip, the_stop, negated, in_brackets}
use Rattle.grammar.specs.Reading.{Ahead, sign, over, faulty, Machine, Built, Grown, wanting, counted, take_name, judge, judged, end_fits, pull}
use Rattle.grammar.specs.Reading.{bind_pulled, bind_built, bind_grown, is_repeating, is_following, is_choosing, is_closing, named_unit, negated_unit, closed_unit, unit_at}
use Rattle.grammar.specs.Reading.{grown, stars_at, stars_from, joined_with, or_more, choice_from, chain_from, step_from, unit_from}
use Rattle.grammar.specs.Theorems.{Meaning, Deriving, BuiltIsDerived, PartGrown, PartsDerived, UnitBuilt, UnitsDerived}
use Rattle.grammar.specs.Theorems.{chain_goes_on, choice_goes_on, infront, past, pulled_behind}
use Rattle.grammar.specs.declared.fault.RuleFault.{RuleFault}
use Rattle.grammar.specs.declared.fault.RuleFault.TheVariants.{TooMany, Unfit, NotATest}
use Rattle.grammar.proofs.Judging.{Taken, is_choosing_lem, is_closing_lem, is_following_lem, is_repeating_lem, was_pulled, was_taken}
use Rattle.grammar.proofs.Results.{err_not_ok, from_built, from_grown, ok_same, past_test, some_same, through_test}
use Rattle.grammar.proofs.Signs.{infront_joined, plain_joined}
use Rattle.grammar.proofs.States.{Parts, Units, behind, built, ready, stars_behind, unit_behind}

-- Units, with what builds the unit under a `!` and the choice in brackets.
module _ (means : Meaning) (levels : ℕ) where
  single_sound : (x : Mark) (ahead : Ahead) (m : Machine) (e : Term) (after : ℕ)
      → plain_signs (x ∷ []) ≡ 1 → (m.signs ≡ 255 → ⊥) → (m.actions ≤ 63 → after ≤ 63)
      → Unit' means levels m.actions (x ∷ []) e after → UnitBuilt means levels (sign x ahead) m (built e ahead (past m (x ∷ []) after))
  single_sound x ahead m e after plain room few d =
      record { read = x ∷ []; after = after; consumed = refl; derived = d; state = refl; few_signs = λ h. omega arith; few_actions = few }

  name_sound : (name : List ℕ) (place : ℕ) (ahead : Ahead) (m m' : Machine) (b : Built) → (m.signs ≡ 255 → ⊥)
      → take_name (means name) place m ≡ Ok m' → named_unit (means name) place ahead m' ≡ Ok b → UnitBuilt means levels (sign (named name place) ahead) m b
  name_sound name place ahead m m' b room t n = go (means name) refl t n
    where
      Goal : Built → Type 0
      Goal = UnitBuilt means levels (sign (named name place) ahead) m

      go : (o : Option Named) → means name ≡ o → take_name o place m ≡ Ok m' → named_unit o place ahead m' ≡ Ok b → Goal b
      go None e t n = absurd (err_not_ok t)
      go (Some (Test i)) e t n =
          subst Goal (ok_same n)
          (subst (λ s. Goal (built (test i) ahead s)) (ok_same t)
          (single_sound (named name place) ahead m (test i) m.actions refl room (λ h. h) (a_test name place i e)))
      go (Some (Action i)) e t n =
          let p = past_test (eqb m.actions 63) (TooMany place) _ m' t in
          let more = eqb-false m.actions 63 p.0 in
          subst Goal (ok_same n)
          (subst (λ s. Goal (built (act i s.actions) ahead s)) (ok_same p.1)
          (subst (λ k. Goal (built (act i k) ahead (past m (named name place ∷ []) k))) (omega arith)
          (single_sound (named name place) ahead m (act i (suc m.actions)) (suc m.actions) refl room (λ h. omega (arith, more)) (an_action name place i e))))

  not_sound : (place : ℕ) (ahead : Ahead) (m : Machine) (b : Built) → (m.signs ≡ 255 → ⊥) → (levels ≡ 0 → ⊥) → is_test b.term ≡ true
      → UnitBuilt means (levels - 1) ahead (counted m wanting) b
      → UnitBuilt means levels (sign (negating place) ahead) m (built (not b.term) b.ahead b.machine)
  not_sound place ahead m b room level t r =
      record {
        read = negating place ∷ r.read;
        after = r.after;
        consumed = ap (sign (negating place)) r.consumed;
        derived = subst (λ d. Unit' means d m.actions (negating place ∷ r.read) (not b.term) r.after) (omega arith) (negated place r.derived t);
        state = r.state ∙ ap (λ s. behind m.brackets s r.after) (omega arith);
        few_signs = λ h. let q = r.few_signs (omega arith) in omega (arith, q);
        few_actions = r.few_actions;
      }

  brackets_sound : (place : ℕ) (ahead : Ahead) (m : Machine) (g : Grown) → (levels ≡ 0 → ⊥) → is_closing g.next ≡ true
      → PartGrown (Choice means (levels - 1)) choice_goes_on means (levels - 1) ahead (ready (m.brackets + 1) m.signs m.actions) g
      → UnitBuilt means levels (sign (opening place) ahead) m (built g.term g.ahead g.machine)
  brackets_sound place ahead m g level closed r =
      let inside = behind (m.brackets + 1) (m.signs + plain_signs r.read) r.after in
      let c = is_closing_lem g.next closed in
      let w = was_pulled means (levels - 1) r.rest inside (pulled_behind g) (closing c.0) r.next_judged c.1 in
      let t = was_taken means (levels - 1) (closing c.0) inside g.machine w.1 in
      let plain = plain_joined r.read (closing c.0 ∷ []) in
      let read = opening place ∷ (r.read ++ closing c.0 ∷ []) in
      record {
        read = read;
        after = r.after;
        consumed = ap (sign (opening place)) (r.consumed ∙ (ap (infront r.read) w.0 ∙ sym (infront_joined r.read (closing c.0 ∷ []) g.ahead)));
        derived = subst (λ d. Unit' means d m.actions read g.term r.after) (omega arith) (in_brackets place c.0 r.derived);
        state = sym (ok_same t.taken) ∙ ap₂ (λ k s. behind k s r.after) (omega arith) (omega (arith, plain));
        few_signs = λ h. omega (arith, r.few_signs h, plain);
        few_actions = r.few_actions;
      }

  module _ (inner : Units) (whole : Parts)
      (units : UnitsDerived means (levels - 1) inner) (choices : PartsDerived (Choice means (levels - 1)) choice_goes_on means (levels - 1) whole) where
    unit_sound_at : (x : Mark) (ahead : Ahead) (m m' : Machine) (b : Built)
        → Taken means levels x m m' → unit_at means inner whole (Some x) ahead m' ≡ Ok b → UnitBuilt means levels (sign x ahead) m b
    unit_sound_at (named name place) ahead m m' b t e = name_sound name place ahead m m' b (t.room refl) t.taken e
    unit_sound_at (skipping place) ahead m m' b t e =
        subst (UnitBuilt means levels (sign (skipping place) ahead) m) (ok_same e)
        (subst (λ s. UnitBuilt means levels (sign (skipping place) ahead) m (built skip ahead s)) (ok_same t.taken)
        (single_sound (skipping place) ahead m skip m.actions refl (t.room refl) (λ h. h) (the_skip place)))
    unit_sound_at (stopping place) ahead m m' b t e =
        subst (UnitBuilt means levels (sign (stopping place) ahead) m) (ok_same e)
        (subst (λ s. UnitBuilt means levels (sign (stopping place) ahead) m (built stop ahead s)) (ok_same t.taken)
        (single_sound (stopping place) ahead m stop m.actions refl (t.room refl) (λ h. h) (the_stop place)))
    unit_sound_at (opening place) ahead m m' b t e =
        let p = from_grown (whole ahead m') (closed_unit place) b e in
        let q = through_test (is_closing p.0.next) (Unfit place) _ b p.2 in
        subst (UnitBuilt means levels (sign (opening place) ahead) m) (ok_same q.1)
        (brackets_sound place ahead m p.0 (t.level refl) q.0
        (subst (λ s. PartGrown (Choice means (levels - 1)) choice_goes_on means (levels - 1) ahead s p.0) (sym (ok_same t.taken)) (choices ahead m' p.0 p.1)))
    unit_sound_at (closing place) ahead m m' b t e = absurd (err_not_ok e)
    unit_sound_at (negating place) ahead m m' b t e =
        let p = from_built (inner ahead m') (negated_unit place) b e in
        let q = through_test (is_test p.0.term) (NotATest place) _ b p.2 in
        subst (UnitBuilt means levels (sign (negating place) ahead) m) (ok_same q.1)
        (not_sound place ahead m p.0 (t.room refl) (t.level refl) q.0
        (subst (λ s. UnitBuilt means (levels - 1) ahead s p.0) (sym (ok_same t.taken)) (units ahead m' p.0 p.1)))
    unit_sound_at (repeating place) ahead m m' b t e = absurd (err_not_ok e)
    unit_sound_at (following place) ahead m m' b t e = absurd (err_not_ok e)
    unit_sound_at (choosing place) ahead m m' b t e = absurd (err_not_ok e)

    unit_sound : UnitsDerived means levels (λ ahead m. bind_pulled (pull means levels ahead m) (unit_behind means inner whole))
    unit_sound (sign x ahead) m b e = go (judge means levels x m) refl e
      where
        go : (r : Result Machine RuleFault) → judge means levels x m ≡ r → bind_pulled (judged x ahead r) (unit_behind means inner whole) ≡ Ok b
            → UnitBuilt means levels (sign x ahead) m b
        go (Ok m') j f = unit_sound_at x ahead m m' b (was_taken means levels x m m' j) f
        go (Err fault) j f = absurd (err_not_ok f)
    unit_sound (over place) m b e = go (end_fits m) e
      where
        go : (t : Bool) → bind_pulled (cond t (Ok (record { mark = None; ahead = over place; machine = m })) (Err (Unfit place))) (unit_behind means inner whole) ≡ Ok b
            → UnitBuilt means levels (over place) m b
        go true f = absurd (err_not_ok f)
        go false f = absurd (err_not_ok f)
    unit_sound (faulty fault) m b e = absurd (err_not_ok e)

-- Steps: a step so far, and the stars behind it.
module _ (means : Meaning) (levels : ℕ) where
  abbrev StepGrown : Ahead → Machine → Grown → Type 0
  StepGrown = PartGrown (Step means levels) is_repeating means levels

  -- The signs derive a step, and were counted within the limit.
  abbrev StepSoFar : Machine → ℕ → Term → List Mark → Type 0
  StepSoFar m after e read = Step means levels m.actions read e after × (m.signs ≤ 255 → m.signs + plain_signs read ≤ 255)

  part_so_far : (rest : Ahead) (read : List Mark) (m : Machine) (after : ℕ) (g : Grown) → StepSoFar m after g.term read → (m.actions ≤ 63 → after ≤ 63)
      → pull means levels rest (past m read after) ≡ Ok (pulled_behind g) → is_repeating g.next ≡ false → StepGrown (infront read rest) m g
  part_so_far rest read m after g d actions j t =
      record { read = read; rest = rest; after = after; consumed = refl; derived = d.0; few_signs = d.1; few_actions = actions; next_judged = j; ended = t }

  star_sound : (place : ℕ) (ahead : Ahead) (e : Term) (read : List Mark) (m m' : Machine) (after : ℕ) (g : Grown)
      → StepSoFar m after e read → Taken means levels (repeating place) (past m read after) m'
      → ((read' : List Mark) → StepSoFar m after (star e) read' → past m read' after ≡ m' → StepGrown (infront read' ahead) m g)
      → StepGrown (infront read (sign (repeating place) ahead)) m g
  star_sound place ahead e read m m' after g d t again =
      let plain = plain_joined read (repeating place ∷ []) in
      let room = t.room refl in
      subst (λ a. StepGrown a m g) (infront_joined read (repeating place ∷ []) ahead)
      (again (read ++ repeating place ∷ []) (repeated place d.0, λ h. omega (arith, d.1 h, plain, room))
      (ap (λ s. behind m.brackets s after) (omega (arith, plain)) ∙ ok_same t.taken))

  stars_sound : (ahead : Ahead) (e : Term) (read : List Mark) (m : Machine) (after : ℕ) (g : Grown)
      → StepSoFar m after e read → (m.actions ≤ 63 → after ≤ 63) → stars_from means levels ahead e (past m read after) ≡ Ok g → StepGrown (infront read ahead) m g
  stars_sound (sign x ahead) e read m after g d actions f =
      go (judge means levels x (past m read after)) refl (λ read' d'. stars_sound ahead (star e) read' m after g d' actions) f
    where
      Again : Type 0
      Again =
          (read' : List Mark) → StepSoFar m after (star e) read' → stars_from means levels ahead (star e) (past m read' after) ≡ Ok g → StepGrown (infront read' ahead) m g

      either : (t : Bool) (m' : Machine) → is_repeating (Some x) ≡ t → judge means levels x (past m read after) ≡ Ok m' → Again
          → cond t (stars_from means levels ahead (star e) m') (Ok (grown e (Some x) ahead m')) ≡ Ok g → StepGrown (infront read (sign x ahead)) m g
      either true m' t j again f =
          let c = is_repeating_lem (Some x) t in
          let same = some_same c.1 in
          subst (λ y. StepGrown (infront read (sign y ahead)) m g) (sym same)
          (star_sound c.0 ahead e read m m' after g d (was_taken means levels (repeating c.0) (past m read after) m' (rw same at j))
          (λ read' d' past'. again read' d' (ap (stars_from means levels ahead (star e)) past' ∙ f)))
      either false m' t j again f =
          subst (StepGrown (infront read (sign x ahead)) m) (ok_same f)
          (part_so_far (sign x ahead) read m after (grown e (Some x) ahead m') d actions (ap (judged x ahead) j) t)

      go : (r : Result Machine RuleFault) → judge means levels x (past m read after) ≡ r → Again
          → stars_at x ahead e (λ m'. stars_from means levels ahead (star e) m') r ≡ Ok g → StepGrown (infront read (sign x ahead)) m g
      go (Ok m') j again f = either (is_repeating (Some x)) m' refl j again f
      go (Err fault) j again f = absurd (err_not_ok f)
  stars_sound (over place) e read m after g d actions f =
      let t = through_test (end_fits (past m read after)) (Unfit place) _ g f in
      subst (StepGrown (infront read (over place)) m) (ok_same t.1)
      (part_so_far (over place) read m after (grown e None (over place) (past m read after)) d actions (cond-true _ _ _ t.0) refl)
  stars_sound (faulty fault) e read m after g d actions f = absurd (err_not_ok f)

  step_sound : (units : Units) → UnitsDerived means levels units
      → PartsDerived (Step means levels) is_repeating means levels (λ ahead m. bind_built (units ahead m) (stars_behind means levels))
  step_sound units sound ahead m g e =
      let p = from_built (units ahead m) (stars_behind means levels) g e in
      let u = sound ahead m p.0 p.1 in
      subst (λ a. StepGrown a m g) (sym u.consumed)
      (stars_sound p.0.ahead p.0.term u.read m u.after g (unit u.derived, u.few_signs) u.few_actions
      (ap (stars_from means levels p.0.ahead p.0.term) (sym u.state) ∙ p.2))

-- A joining sign, `;` or `|`, with what it joins: parts of the inner kind to one of the outer.
record Joins (means : Meaning) (levels : ℕ) (Inner Outer : Deriving) (joins : Option Mark → Bool) (join : Term → Term → Term) : Type 0 where
  joining : ℕ → Mark
  one : {before after : ℕ} {signs : List Mark} {e : Term} → Inner before signs e after → Outer before signs e after
  more : {before between after : ℕ} {xs ys : List Mark} {e f : Term} (place : ℕ)
      → Inner before xs e between → Outer between ys f after → Outer before (xs ++ joining place ∷ ys) (join e f) after
  is_joining : (next : Option Mark) → joins next ≡ true → (place : ℕ) × (next ≡ Some (joining place))
  plain : (place : ℕ) (signs : List Mark) → plain_signs (joining place ∷ signs) ≡ suc (plain_signs signs)
  room : {m m' : Machine} (place : ℕ) → Taken means levels (joining place) m m' → m.signs ≡ 255 → ⊥
  state : {m m' : Machine} (place : ℕ) → Taken means levels (joining place) m m' → counted m wanting ≡ m'

-- Chains and choices alike.
module _ (means : Meaning) (levels : ℕ) (Inner Outer : Deriving) (goes_on joins : Option Mark → Bool) (join : Term → Term → Term) (j : Joins means levels Inner Outer joins join) where
  abbrev OuterGrown : Ahead → Machine → Grown → Type 0
  OuterGrown = PartGrown Outer (λ next. goes_on next || joins next) means levels

  joined_sound : (ahead : Ahead) (m : Machine) (g h : Grown) (place : ℕ) (r : PartGrown Inner goes_on means levels ahead m g)
      → r.rest ≡ sign (j.joining place) g.ahead → (m.signs + plain_signs r.read ≡ 255 → ⊥)
      → OuterGrown g.ahead (counted (past m r.read r.after) wanting) h
      → OuterGrown ahead m (grown (join g.term h.term) h.next h.ahead h.machine)
  joined_sound ahead m g h place r w room s =
      let plain : plain_signs (r.read ++ j.joining place ∷ s.read) ≡ plain_signs r.read + suc (plain_signs s.read) =
      plain_joined r.read (j.joining place ∷ s.read) ∙ ap (λ n. plain_signs r.read + n) (j.plain place s.read) in
      record {
        read = r.read ++ j.joining place ∷ s.read;
        rest = s.rest;
        after = s.after;
        consumed = r.consumed ∙ (ap (infront r.read) (w ∙ ap (sign (j.joining place)) s.consumed) ∙ sym (infront_joined r.read (j.joining place ∷ s.read) s.rest));
        derived = j.more place r.derived s.derived;
        few_signs = λ h. let x = r.few_signs h in let y = s.few_signs (omega (arith, x, room)) in omega (arith, y, plain);
        few_actions = λ h. s.few_actions (r.few_actions h);
        next_judged = ap (λ n. pull means levels s.rest (behind m.brackets n s.after)) (omega (arith, plain)) ∙ s.next_judged;
        ended = s.ended;
      }

  join_sound : (inner outer : Parts) → PartsDerived Inner goes_on means levels inner
      → PartsDerived Outer (λ next. goes_on next || joins next) means levels outer
      → PartsDerived Outer (λ next. goes_on next || joins next) means levels (λ ahead m. bind_grown (inner ahead m) (or_more joins join outer))
  join_sound inner outer parts rests ahead m g e =
      let p = from_grown (inner ahead m) (or_more joins join outer) g e in
      go p.0 (parts ahead m p.0 p.1) (joins p.0.next) refl p.2
    where
      with_more : (h : Grown) (r : PartGrown Inner goes_on means levels ahead m h) → joins h.next ≡ true
          → bind_grown (outer h.ahead h.machine) (joined_with join h.term) ≡ Ok g → OuterGrown ahead m g
      with_more h r t f =
          let c = j.is_joining h.next t in
          let w = was_pulled means levels r.rest (past m r.read r.after) (pulled_behind h) (j.joining c.0) r.next_judged c.1 in
          let u = was_taken means levels (j.joining c.0) (past m r.read r.after) h.machine w.1 in
          let p = from_grown (outer h.ahead h.machine) (joined_with join h.term) g f in
          subst (OuterGrown ahead m) (ok_same p.2)
          (joined_sound ahead m h p.0 c.0 r w.0 (j.room c.0 u)
          (subst (λ n. OuterGrown h.ahead n p.0) (sym (j.state c.0 u)) (rests h.ahead h.machine p.0 p.1)))

      go : (h : Grown) (r : PartGrown Inner goes_on means levels ahead m h) (t : Bool) → joins h.next ≡ t
          → cond t (bind_grown (outer h.ahead h.machine) (joined_with join h.term)) (Ok h) ≡ Ok g → OuterGrown ahead m g
      go h r true t f = with_more h r t f
      go h r false t f =
          subst (OuterGrown ahead m) (ok_same f)
          (record {
            read = r.read;
            rest = r.rest;
            after = r.after;
            consumed = r.consumed;
            derived = j.one r.derived;
            few_signs = r.few_signs;
            few_actions = r.few_actions;
            next_judged = r.next_judged;
            ended = or_from _ _ r.ended t;
          })

chains_join : (means : Meaning) (levels : ℕ) → Joins means levels (Chain means levels) (Choice means levels) is_choosing choice
chains_join means levels =
    record {
      joining = choosing;
      one = one_chain;
      more = more_chains;
      is_joining = is_choosing_lem;
      plain = λ place signs. refl;
      room = λ place t. t.room refl;
      state = λ place t. ok_same t.taken;
    }

steps_join : (means : Meaning) (levels : ℕ) → Joins means levels (Step means levels) (Chain means levels) is_following chain
steps_join means levels =
    record {
      joining = following;
      one = one_step;
      more = more_steps;
      is_joining = is_following_lem;
      plain = λ place signs. refl;
      room = λ place t. t.room refl;
      state = λ place t. ok_same t.taken;
    }

pub builders_sound : BuiltIsDerived
builders_sound zero means levels =
    record {
      choices = λ ahead m g e. absurd (err_not_ok e);
      chains = λ ahead m g e. absurd (err_not_ok e);
      steps = λ ahead m g e. absurd (err_not_ok e);
      units = λ ahead m b e. absurd (err_not_ok e);
    }
builders_sound (suc fuel) means levels =
    let here = builders_sound fuel means levels in
    let inside = builders_sound fuel means (levels - 1) in
    record {
      choices = join_sound means levels (Chain means levels) (Choice means levels) chain_goes_on is_choosing choice
          (chains_join means levels) (chain_from fuel means levels) (choice_from fuel means levels) here.chains here.choices;
      chains = join_sound means levels (Step means levels) (Chain means levels) is_repeating is_following chain
          (steps_join means levels) (step_from fuel means levels) (chain_from fuel means levels) here.steps here.chains;
      steps = step_sound means levels (unit_from fuel means levels) here.units;
      units = unit_sound means levels (unit_from fuel means (levels - 1)) (choice_from fuel means (levels - 1)) inside.units inside.choices;
    }
