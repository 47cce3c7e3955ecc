-- The builders build all that is derived, where the reader meets no limit.
use Rattle.std.proofs.Common.{◌≡◌, ℕ, zero, suc, ◌+◌, ◌-◌, ◌*◌, ◌<◌, ◌≤◌, Bool, true, false, ◌||◌, List, [], ◌∷◌, ◌++◌, Some, Ok, Err, Option, Result, refl, ap, ◌∙◌, subst, ap₂, arith}
use Rattle.std.proofs.lemmas.Bool.{lt-ltb, ne_eqb, or_parts}
use Rattle.sheet.specs.declared.named.Named.TheVariants.{Test, Action}
use Rattle.signs.specs.Signs.{Mark, named, skipping, stopping, opening, closing, negating, repeating, following, choosing}
use Rattle.kat.specs.Terms.{Term, act, chain, choice, is_test, not, skip, star, stop, test}
use Rattle.grammar.specs.Derivations.{Choice, one_chain, more_chains, Chain, one_step, more_steps, Step, unit, repeated, plain_signs}
use Rattle.grammar.specs.Derivations.{Unit', a_test, an_action, the_skip, the_stop, negated, in_brackets}
use Rattle.grammar.specs.Reading.{Ahead, sign, over, faulty, Machine, Pulled, Grown, judge, judged, end_fits, pull, bind_built, bind_grown}
use Rattle.grammar.specs.Reading.{is_repeating, is_following, is_choosing, grown, stars_at, stars_from, or_more, choice_from, chain_from, step_from, unit_from, signs_left}
use Rattle.grammar.specs.Theorems.{Meaning, chain_goes_on, choice_goes_on, infront, past}
use Rattle.grammar.specs.declared.fault.RuleFault.{RuleFault}
use Rattle.grammar.specs.declared.fault.RuleFault.TheVariants.{Unfit}
use Rattle.grammar.proofs.Numbering.{chain_numbered, choice_numbered, grows, step_numbered}
use Rattle.grammar.proofs.Results.{err_not_ok, ok_same, through_test}
use Rattle.grammar.proofs.Signs.{infront_joined, infront_left, plain_joined}
use Rattle.grammar.proofs.States.{behind, built, ready}

-- A count that goes from one number up to another does not meet the limit below that other.
abbrev Free : ℕ → ℕ → ℕ → Type 0
Free limit from to = (n : ℕ) → from ≤ n → n < to → n ≡ limit → ⊥

-- The reader meets no limit on its way over the signs: of levels, of actions, or of signs other than brackets.
pub record Room (depth levels before after counted : ℕ) (signs : List Mark) : Type 0 where
  pub level : depth ≤ levels
  pub action : Free 63 before after
  pub plain : Free 255 counted (counted + plain_signs signs)

-- The signs of a unit are read to its term.
abbrev UnitReads : Meaning → ℕ → ℕ → List Mark → Term → ℕ → Type 0
UnitReads means depth before signs e after =
    (f levels : ℕ) (rest : Ahead) (b s : ℕ) → Room depth levels before after s signs → signs_left (infront signs rest) * 4 < f
    → unit_from f means levels (infront signs rest) (ready b s before) ≡ Ok (built e rest (past (ready b s before) signs after))

-- The signs of a step are read to its term, and the stars behind it go on.
abbrev StepReads : Meaning → ℕ → ℕ → List Mark → Term → ℕ → Type 0
StepReads means depth before signs e after =
    (f levels : ℕ) (rest : Ahead) (b s : ℕ) → Room depth levels before after s signs → signs_left (infront signs rest) * 4 + 1 < f
    → step_from f means levels (infront signs rest) (ready b s before) ≡ stars_from means levels rest e (past (ready b s before) signs after)

abbrev Builder : Type 0
Builder = ℕ → Meaning → ℕ → Ahead → Machine → Result Grown RuleFault

-- The signs of a part are read to its term, if a sign is judged behind them, or the end, with which it does not go on.
abbrev PartReads : Builder → (Option Mark → Bool) → ℕ → Meaning → ℕ → ℕ → List Mark → Term → ℕ → Type 0
PartReads from goes_on more means depth before signs e after =
    (f levels : ℕ) (rest : Ahead) (b s : ℕ) (p : Pulled) → Room depth levels before after s signs → signs_left (infront signs rest) * 4 + more < f
    → pull means levels rest (past (ready b s before) signs after) ≡ Ok p → goes_on p.mark ≡ false
    → from f means levels (infront signs rest) (ready b s before) ≡ Ok (grown e p.mark p.ahead p.machine)

-- A number above a bound is a successor.
pub by_suc : (P : ℕ → Type 0) (bound : ℕ) → ((f : ℕ) → bound ≤ f → P (suc f)) → (f : ℕ) → bound < f → P f
by_suc P bound h zero lt = absurd (omega arith)
by_suc P bound h (suc f) lt = h f (omega arith)

-- Units and steps.
module _ (means : Meaning) where
  test_reads : (depth before : ℕ) (name : List ℕ) (place t : ℕ) → means name ≡ Some (Test t) → UnitReads means depth before (named name place ∷ []) (test t) before
  test_reads depth before name place t e f levels rest b s r =
      by_suc (λ f. unit_from f means levels (sign (named name place) rest) (ready b s before) ≡ Ok (built (test t) rest (behind b (s + 1) before))) _
      (λ f le. rw (ne_eqb s 255 (r.plain s (omega arith) (omega arith))) (rw e (rw e))) f

  action_reads : (depth before : ℕ) (name : List ℕ) (place a : ℕ) → means name ≡ Some (Action a)
      → UnitReads means depth before (named name place ∷ []) (act a (suc before)) (suc before)
  action_reads depth before name place a e f levels rest b s r =
      by_suc (λ f. unit_from f means levels (sign (named name place) rest) (ready b s before) ≡ Ok (built (act a (suc before)) rest (behind b (s + 1) (suc before)))) _
      (λ f le. rw (ne_eqb s 255 (r.plain s (omega arith) (omega arith)))
      (rw e (rw (ne_eqb before 63 (r.action before (omega arith) (omega arith)))
      (rw e (ap (λ n. Ok (built (act a n) rest (behind b (s + 1) n))) (omega arith)))))) f

  skip_reads : (depth before place : ℕ) → UnitReads means depth before (skipping place ∷ []) skip before
  skip_reads depth before place f levels rest b s r =
      by_suc (λ f. unit_from f means levels (sign (skipping place) rest) (ready b s before) ≡ Ok (built skip rest (behind b (s + 1) before))) _
      (λ f le. rw (ne_eqb s 255 (r.plain s (omega arith) (omega arith)))) f

  stop_reads : (depth before place : ℕ) → UnitReads means depth before (stopping place ∷ []) stop before
  stop_reads depth before place f levels rest b s r =
      by_suc (λ f. unit_from f means levels (sign (stopping place) rest) (ready b s before) ≡ Ok (built stop rest (behind b (s + 1) before))) _
      (λ f le. rw (ne_eqb s 255 (r.plain s (omega arith) (omega arith)))) f

  not_reads : (depth before after place : ℕ) (signs : List Mark) (e : Term) → is_test e ≡ true
      → UnitReads means depth before signs e after → UnitReads means (suc depth) before (negating place ∷ signs) (not e) after
  not_reads depth before after place xs e t inner f levels rest b s r =
      let level = r.level in
      let under : Room depth (levels - 1) before after (s + 1) xs = record { level = omega arith; action = r.action; plain = λ n x y. r.plain n (omega arith) (omega arith) } in
      by_suc (λ f. unit_from f means levels (sign (negating place) (infront xs rest)) (ready b s before) ≡ Ok (built (not e) rest (behind b (s + suc (plain_signs xs)) after))) _
      (λ f le. rw (ne_eqb s 255 (r.plain s (omega arith) (omega arith)))
      (rw (ne_eqb levels 0 (omega arith))
      (rw (inner f (levels - 1) rest b (s + 1) under (omega arith))
      (rw t (ap (λ n. Ok (built (not e) rest (behind b n after))) (omega arith)))))) f

  brackets_read : (depth before after p q : ℕ) (signs : List Mark) (e : Term)
      → PartReads choice_from choice_goes_on 3 means depth before signs e after → UnitReads means (suc depth) before (opening p ∷ (signs ++ closing q ∷ [])) e after
  brackets_read depth before after p q xs e inner f levels rest b s r =
      let level = r.level in
      let plain = plain_joined xs (closing q ∷ []) in
      let apart = infront_joined xs (closing q ∷ []) rest in
      let left = ap signs_left apart in
      let inside : Room depth (levels - 1) before after s xs = record { level = omega arith; action = r.action; plain = λ n x y. r.plain n x (omega (arith, plain)) } in
      let next : Pulled = record { mark = Some (closing q); ahead = rest; machine = behind (b + 1 - 1) (s + plain_signs xs) after } in
      by_suc (λ f. unit_from f means levels (sign (opening p) (infront (xs ++ closing q ∷ []) rest)) (ready b s before) ≡ Ok (built e rest (behind b (s + plain_signs (xs ++ closing q ∷ [])) after))) _
      (λ f le. rw (ne_eqb levels 0 (omega arith))
      (rw apart
      (rw (inner f (levels - 1) (sign (closing q) rest) (b + 1) s next inside (omega (arith, left)) (rw (lt-ltb 0 (b + 1) (omega arith))) refl)
      (ap₂ (λ x y. Ok (built e rest (behind x y after))) (omega arith) (omega (arith, plain)))))) f

  -- Stars end where no `*` comes.
  stars_end : (levels : ℕ) (rest : Ahead) (e : Term) (m : Machine) (p : Pulled)
      → pull means levels rest m ≡ Ok p → is_repeating p.mark ≡ false → stars_from means levels rest e m ≡ Ok (grown e p.mark p.ahead p.machine)
  stars_end levels (sign x ahead) e m p f t = go (judge means levels x m) f
    where
      Ends : Result Machine RuleFault → Pulled → Type 0
      Ends r q = stars_at x ahead e (λ m'. stars_from means levels ahead (star e) m') r ≡ Ok (grown e q.mark q.ahead q.machine)

      go : (r : Result Machine RuleFault) → judged x ahead r ≡ Ok p → Ends r p
      go (Ok m') f = subst (λ (q : Pulled). is_repeating q.mark ≡ false → Ends (Ok m') q) (ok_same f) (λ t. rw t) t
      go (Err fault) f = absurd (err_not_ok f)
  stars_end levels (over place) e m p f t =
      let u = through_test (end_fits m) (Unfit place) _ p f in
      rw u.0 (ap (λ (q : Pulled). Ok (grown e q.mark q.ahead q.machine)) (ok_same u.1))
  stars_end levels (faulty fault) e m p f t = absurd (err_not_ok f)

  unit_step_reads : (depth before after : ℕ) (signs : List Mark) (e : Term) → UnitReads means depth before signs e after → StepReads means depth before signs e after
  unit_step_reads depth before after xs e inner f levels rest b s r =
      by_suc (λ f. step_from f means levels (infront xs rest) (ready b s before) ≡ stars_from means levels rest e (past (ready b s before) xs after)) _
      (λ f le. ap (λ v. bind_built v (λ u. stars_from means levels u.ahead u.term u.machine)) (inner f levels rest b s r (omega arith))) f

  star_reads : (depth before after place : ℕ) (signs : List Mark) (e : Term)
      → StepReads means depth before signs e after → StepReads means depth before (signs ++ repeating place ∷ []) (star e) after
  star_reads depth before after place xs e inner f levels rest b s r fuel =
      let plain = plain_joined xs (repeating place ∷ []) in
      let apart = infront_joined xs (repeating place ∷ []) rest in
      let left = ap signs_left apart in
      let so_far : Room depth levels before after s xs = record { level = r.level; action = r.action; plain = λ n x y. r.plain n x (omega (arith, plain)) } in
      rw apart
      (inner f levels (sign (repeating place) rest) b s so_far (omega (arith, left))
      ∙ rw (ne_eqb (s + plain_signs xs) 255 (r.plain (s + plain_signs xs) (omega arith) (omega (arith, plain))))
      (ap (λ n. stars_from means levels rest (star e) (behind b n after)) (omega (arith, plain))))

  step_reads : (depth before after : ℕ) (signs : List Mark) (e : Term) → StepReads means depth before signs e after → PartReads step_from is_repeating 1 means depth before signs e after
  step_reads depth before after xs e inner f levels rest b s p r fuel known ended =
      inner f levels rest b s r fuel ∙ stars_end levels rest e (past (ready b s before) xs after) p known ended

-- A joining sign, `;` or `|`, and the builders of what it joins and of what is joined.
record Joiner (inner outer : Builder) (goes_on joins : Option Mark → Bool) (join : Term → Term → Term) : Type 0 where
  joining : ℕ → Mark
  unfolds : (f : ℕ) (means : Meaning) (levels : ℕ) (ahead : Ahead) (m : Machine)
      → outer (suc f) means levels ahead m ≡ bind_grown (inner f means levels ahead m) (or_more joins join (outer f means levels))
  joins_it : (place : ℕ) → joins (Some (joining place)) ≡ true
  ends_it : (place : ℕ) → goes_on (Some (joining place)) ≡ false
  plain : (place : ℕ) (signs : List Mark) → plain_signs (joining place ∷ signs) ≡ suc (plain_signs signs)
  judged_so : (means : Meaning) (levels place b s k : ℕ) → (s ≡ 255 → ⊥) → judge means levels (joining place) (behind b s k) ≡ Ok (ready b (s + 1) k)

-- Chains and choices alike.
module _ (inner outer : Builder) (goes_on joins : Option Mark → Bool) (join : Term → Term → Term) (j : Joiner inner outer goes_on joins join) (more : ℕ) (means : Meaning) where
  abbrev InnerReads : ℕ → ℕ → List Mark → Term → ℕ → Type 0
  InnerReads = PartReads inner goes_on more means

  abbrev OuterReads : ℕ → ℕ → List Mark → Term → ℕ → Type 0
  OuterReads = PartReads outer (λ next. goes_on next || joins next) (suc more) means

  one_reads : (depth before after : ℕ) (signs : List Mark) (e : Term) → InnerReads depth before signs e after → OuterReads depth before signs e after
  one_reads depth before after xs e part f levels rest b s p r fuel known ended =
      let t = or_parts _ _ ended in
      by_suc (λ f. outer f means levels (infront xs rest) (ready b s before) ≡ Ok (grown e p.mark p.ahead p.machine)) (signs_left (infront xs rest) * 4 + suc more)
      (λ f le. j.unfolds f means levels (infront xs rest) (ready b s before) ∙ rw (part f levels rest b s p r (omega arith) known t.0) (rw t.1)) f fuel

  more_reads : (depth before between after place : ℕ) (xs ys : List Mark) (e e' : Term) → before ≤ between → between ≤ after
      → InnerReads depth before xs e between → OuterReads depth between ys e' after → OuterReads depth before (xs ++ j.joining place ∷ ys) (join e e') after
  more_reads depth before between after place xs ys e e' up up' part rests f levels rest b s p r fuel known ended =
      let x = j.joining place in
      let behind-x = infront ys rest in
      let plain : plain_signs (xs ++ x ∷ ys) ≡ plain_signs xs + suc (plain_signs ys) = plain_joined xs (x ∷ ys) ∙ ap (λ n. plain_signs xs + n) (j.plain place ys) in
      let apart = infront_joined xs (x ∷ ys) rest in
      let left = ap signs_left apart in
      let left' = infront_left xs (sign x behind-x) in
      let first : Room depth levels before between s xs = record { level = r.level; action = λ n h k. r.action n h (omega arith); plain = λ n h k. r.plain n h (omega (arith, plain)) } in
      let second : Room depth levels between after (s + plain_signs xs + 1) ys =
      record { level = r.level; action = λ n h k. r.action n (omega arith) k; plain = λ n h k. r.plain n (omega arith) (omega (arith, plain)) } in
      let next : Pulled = record { mark = Some x; ahead = behind-x; machine = ready b (s + plain_signs xs + 1) between } in
      let taken = j.judged_so means levels place b (s + plain_signs xs) between (r.plain (s + plain_signs xs) (omega arith) (omega (arith, plain))) in
      let known' : pull means levels rest (behind b (s + plain_signs xs + 1 + plain_signs ys) after) ≡ Ok p = ap (λ n. pull means levels rest (behind b n after)) (omega (arith, plain)) ∙ known in
      by_suc (λ f. outer f means levels (infront (xs ++ x ∷ ys) rest) (ready b s before) ≡ Ok (grown (join e e') p.mark p.ahead p.machine)) (signs_left (infront (xs ++ x ∷ ys) rest) * 4 + suc more)
      (λ f le. rw apart
      (j.unfolds f means levels (infront xs (sign x behind-x)) (ready b s before)
      ∙ rw (part f levels (sign x behind-x) b s next first (omega (arith, left)) (ap (judged x behind-x) taken) (j.ends_it place))
      (rw (j.joins_it place)
      (rw (rests f levels rest b (s + plain_signs xs + 1) p second (omega (arith, left, left')) known' ended))))) f fuel

abbrev chains_joiner : Joiner chain_from choice_from chain_goes_on is_choosing choice
chains_joiner =
    record {
      joining = choosing;
      unfolds = λ f means levels ahead m. refl;
      joins_it = λ place. refl;
      ends_it = λ place. refl;
      plain = λ place signs. refl;
      judged_so = λ means levels place b s k room. rw (ne_eqb s 255 room);
    }

abbrev steps_joiner : Joiner step_from chain_from is_repeating is_following chain
steps_joiner =
    record {
      joining = following;
      unfolds = λ f means levels ahead m. refl;
      joins_it = λ place. refl;
      ends_it = λ place. refl;
      plain = λ place signs. refl;
      judged_so = λ means levels place b s k room. rw (ne_eqb s 255 room);
    }

-- All that is derived is read.
mutual
  pub choice_read : {means : Meaning} {depth before after : ℕ} {signs : List Mark} {e : Term}
      → Choice means depth before signs e after → PartReads choice_from choice_goes_on 3 means depth before signs e after
  choice_read {means} (one_chain {depth} {before} {after} {signs} {e} c) =
      one_reads chain_from choice_from chain_goes_on is_choosing choice chains_joiner 2 means depth before after signs e (chain_read c)
  choice_read {means} (more_chains {depth} {before} {between} {after} {xs} {ys} {e} {f} place c d) =
      more_reads chain_from choice_from chain_goes_on is_choosing choice chains_joiner 2 means depth before between after place xs ys e f
      (grows _ _ _ (chain_numbered c)) (grows _ _ _ (choice_numbered d)) (chain_read c) (choice_read d)

  chain_read : {means : Meaning} {depth before after : ℕ} {signs : List Mark} {e : Term}
      → Chain means depth before signs e after → PartReads chain_from chain_goes_on 2 means depth before signs e after
  chain_read {means} (one_step {depth} {before} {after} {signs} {e} s) =
      one_reads step_from chain_from is_repeating is_following chain steps_joiner 1 means depth before after signs e (step_reads means depth before after signs e (step_read s))
  chain_read {means} (more_steps {depth} {before} {between} {after} {xs} {ys} {e} {f} place s c) =
      more_reads step_from chain_from is_repeating is_following chain steps_joiner 1 means depth before between after place xs ys e f
      (grows _ _ _ (step_numbered s)) (grows _ _ _ (chain_numbered c)) (step_reads means depth before between xs e (step_read s)) (chain_read c)

  step_read : {means : Meaning} {depth before after : ℕ} {signs : List Mark} {e : Term}
      → Step means depth before signs e after → StepReads means depth before signs e after
  step_read {means} (unit {depth} {before} {after} {signs} {e} u) = unit_step_reads means depth before after signs e (unit_read u)
  step_read {means} (repeated {depth} {before} {after} {signs} {e} place s) = star_reads means depth before after place signs e (step_read s)

  unit_read : {means : Meaning} {depth before after : ℕ} {signs : List Mark} {e : Term}
      → Unit' means depth before signs e after → UnitReads means depth before signs e after
  unit_read {means} (a_test {depth} {before} name place t e) = test_reads means depth before name place t e
  unit_read {means} (an_action {depth} {before} name place a e) = action_reads means depth before name place a e
  unit_read {means} (the_skip {depth} {before} place) = skip_reads means depth before place
  unit_read {means} (the_stop {depth} {before} place) = stop_reads means depth before place
  unit_read {means} (negated {depth} {before} {after} {signs} {e} place u t) = not_reads means depth before after place signs e t (unit_read u)
  unit_read {means} (in_brackets {depth} {before} {after} {signs} {e} p q c) = brackets_read means depth before after p q signs e (choice_read c)
