-- The ways that each of the four builders ends.
use Rattle.std.proofs.Common.{◌≡◌, ◌-◌, ◌<◌, true, false, Some, None, Ok, Err, sym, refl, ap, ◌∙◌, arith, rules}
use Rattle.signs.specs.Signs.{named, skipping, stopping, opening, closing, negating, repeating, following, choosing}
use Rattle.grammar.specs.Reading.{bind_built, chain_from, choice_from, is_choosing, is_closing, is_following, named_unit, signs_left, stars_from, unit_from}
use Rattle.kat.specs.Terms.{chain, choice, skip, stop}
use Rattle.grammar.specs.declared.fault.RuleFault.TheVariants.{Unfit}
use Rattle.rules.specs.Builders.{shape_at, shown_built, shown_grown}
use Rattle.rules.specs.Machines.{machine_of}
use Rattle.rules.specs.Readers.{ahead_by, judged_mark, maybe_mark, means_of, standing}
use Rattle.rules.specs.declared.node.Node.TheVariants.{Chain, Choice, Skip, Stop}
use Rattle.rules.proofs.Fuel.{chain_by, choice_by, step_by}
use Rattle.rules.proofs.Joins.{alone, both, chain_joins, choice_joins, first_err, second_err}
use Rattle.rules.proofs.Refused.{built_refused, grown_refused}
use Rattle.rules.proofs.Units.{built_err, closed, moved_grown, not_closed, unit_begun, unit_err, word_shown}
use Rattle.rules.proofs.reader.Reader.+chain_choice_step_unit.Goals as goal

pub chain-returns-in_err-left-clause-as_defined : goal.chain-returns-in_err-left-clause-as_defined
chain-returns-in_err-left-clause-as_defined t c =
    let self = c.args.self.now in
    chain_by _ self c.step.new.self _ (λ f h. grown_refused _ c.step.new.self _ c.from_residual.ensures.1 ∙ sym (ap (shown_grown self.machine.nodes self.nodes.now) (first_err _ _ _ _ _ (c.in_err-left.ensures.as_defined f (omega arith)))))

pub chain-returns-then-not-matches-clause-as_defined : goal.chain-returns-then-not-matches-clause-as_defined
chain-returns-then-not-matches-clause-as_defined t c =
    let left = c.in_ok-left.left in
    let last = c.step.new.self in
    let ends : is_following (maybe_mark left.next) ≡ false = search rules in
    chain_by _ c.args.self.now last (Ok left) (λ f h. alone is_following chain Chain chain_joins _ _ _ _ (shape_at left last) (c.in_ok-left.ensures.as_defined f (omega arith)) ends)

pub chain-returns-in_err-right-clause-as_defined : goal.chain-returns-in_err-right-clause-as_defined
chain-returns-in_err-right-clause-as_defined t c =
    let left = c.in_ok-left.left in
    let mid = c.step.new.self in
    let told = c.in_ok-left.ensures in
    let seen : is_following (maybe_mark left.next) ≡ true = search rules in
    chain_by _ c.args.self.now c.chain.new.self _ (λ f h.
    let right = c.in_err-right.ensures.as_defined f (omega (arith, told.onward.left)) in
    grown_refused _ c.chain.new.self _ c.from_residual-in_err-right.ensures.1
    ∙ second_err is_following chain Chain chain_joins _ _ _ _ (shape_at left mid) (told.as_defined f (omega arith)) _ seen
    (moved_grown _ (λ names. chain_from f (means_of names) c.args.levels (ahead_by mid) (machine_of mid.machine)) _ _ _ _ _ _ right refl refl told.stays.names))

pub chain-returns-clause-as_defined : goal.chain-returns-clause-as_defined
chain-returns-clause-as_defined t c =
    let left = c.in_ok-left.left in
    let right = c.in_ok-right.right in
    let mid = c.step.new.self in
    let told = c.in_ok-left.ensures in
    let seen : is_following (maybe_mark left.next) ≡ true = search rules in
    chain_by _ c.args.self.now c.join.new.self (Ok c.join.result) (λ f h.
    let more = c.in_ok-right.ensures.as_defined f (omega (arith, told.onward.left)) in
    ap Ok c.join.ensures.joined
    ∙ both is_following chain Chain chain_joins _ _ _ _ (shape_at left mid) (told.as_defined f (omega arith)) (shape_at right c.chain.new.self) seen
    (moved_grown _ (λ names. chain_from f (means_of names) c.args.levels (ahead_by mid) (machine_of mid.machine)) _ _ _ _ _ _ more refl refl told.stays.names))

pub choice-returns-in_err-left-clause-as_defined : goal.choice-returns-in_err-left-clause-as_defined
choice-returns-in_err-left-clause-as_defined t c =
    let self = c.args.self.now in
    choice_by _ self c.chain.new.self _ (λ f h. grown_refused _ c.chain.new.self _ c.from_residual.ensures.1 ∙ sym (ap (shown_grown self.machine.nodes self.nodes.now) (first_err _ _ _ _ _ (c.in_err-left.ensures.as_defined f (omega arith)))))

pub choice-returns-then-not-matches-clause-as_defined : goal.choice-returns-then-not-matches-clause-as_defined
choice-returns-then-not-matches-clause-as_defined t c =
    let left = c.in_ok-left.left in
    let last = c.chain.new.self in
    let ends : is_choosing (maybe_mark left.next) ≡ false = search rules in
    choice_by _ c.args.self.now last (Ok left) (λ f h. alone is_choosing choice Choice choice_joins _ _ _ _ (shape_at left last) (c.in_ok-left.ensures.as_defined f (omega arith)) ends)

pub choice-returns-in_err-right-clause-as_defined : goal.choice-returns-in_err-right-clause-as_defined
choice-returns-in_err-right-clause-as_defined t c =
    let left = c.in_ok-left.left in
    let mid = c.chain.new.self in
    let told = c.in_ok-left.ensures in
    let seen : is_choosing (maybe_mark left.next) ≡ true = search rules in
    choice_by _ c.args.self.now c.choice.new.self _ (λ f h.
    let right = c.in_err-right.ensures.as_defined f (omega (arith, told.onward.left)) in
    grown_refused _ c.choice.new.self _ c.from_residual-in_err-right.ensures.1
    ∙ second_err is_choosing choice Choice choice_joins _ _ _ _ (shape_at left mid) (told.as_defined f (omega arith)) _ seen
    (moved_grown _ (λ names. choice_from f (means_of names) c.args.levels (ahead_by mid) (machine_of mid.machine)) _ _ _ _ _ _ right refl refl told.stays.names))

pub choice-returns-clause-as_defined : goal.choice-returns-clause-as_defined
choice-returns-clause-as_defined t c =
    let left = c.in_ok-left.left in
    let right = c.in_ok-right.right in
    let mid = c.chain.new.self in
    let told = c.in_ok-left.ensures in
    let seen : is_choosing (maybe_mark left.next) ≡ true = search rules in
    choice_by _ c.args.self.now c.join.new.self (Ok c.join.result) (λ f h.
    let more = c.in_ok-right.ensures.as_defined f (omega (arith, told.onward.left)) in
    ap Ok c.join.ensures.joined
    ∙ both is_choosing choice Choice choice_joins _ _ _ _ (shape_at left mid) (told.as_defined f (omega arith)) (shape_at right c.choice.new.self) seen
    (moved_grown _ (λ names. choice_from f (means_of names) c.args.levels (ahead_by mid) (machine_of mid.machine)) _ _ _ _ _ _ more refl refl told.stays.names))

pub step-returns-in_err-unit-clause-as_defined : goal.step-returns-in_err-unit-clause-as_defined
step-returns-in_err-unit-clause-as_defined t c =
    let self = c.args.self.now in
    step_by _ self c.unit.new.self _ (λ f h. grown_refused _ c.unit.new.self _ c.from_residual.ensures.1 ∙ sym (ap (shown_grown self.machine.nodes self.nodes.now) (built_err _ _ _ _ _ (c.in_err-unit.ensures.as_defined f (omega arith)))))

pub step-returns-clause-as_defined : goal.step-returns-clause-as_defined
step-returns-clause-as_defined t c =
    let self = c.args.self.now in
    let told = c.in_ok-unit.ensures in
    step_by _ self c.stars.new.self _ (λ f h.
    let unit = unit_from f (means_of self.names.now) c.args.levels (ahead_by self) (machine_of self.machine) in
    c.stars.ensures.as_defined self.machine.nodes self.nodes.now unit (told.as_defined f (omega arith))
    ∙ ap (λ names. shown_grown self.machine.nodes self.nodes.now (bind_built unit (λ u. stars_from (means_of names) c.args.levels u.ahead u.term u.machine))) (sym told.stays.names))

pub unit-returns-in_err-sign-clause-as_defined : goal.unit-returns-in_err-sign-clause-as_defined
unit-returns-in_err-sign-clause-as_defined t c =
    unit_err c.args.levels c.args.self.now c.pull.new.self _ _ (built_refused _ c.pull.new.self _ c.from_residual.ensures.1) c.in_err-sign.ensures.as_defined

pub unit-returns-in_default-clause-as_defined : goal.unit-returns-in_default-clause-as_defined
unit-returns-in_default-clause-as_defined t c =
    let told = c.in_ok-sign.ensures in
    let is : judged_mark c.in_ok-sign.field-0 ≡ None = search rules in
    unit_begun c.args.levels c.args.self.now c.pull.new.self c.pull.new.self _ _ (Err (Unfit 0)) told.stays.names told.none_counted told.no_node told.as_defined is (λ f h. refl)

pub unit-returns-in-Name-clause-as_defined : goal.unit-returns-in-Name-clause-as_defined
unit-returns-in-Name-clause-as_defined t c =
    let mid = c.pull.new.self in
    let told = c.in_ok-sign.ensures in
    let is : judged_mark c.in_ok-sign.field-0 ≡ Some (named c.in-Name.field-0.now c.in-Name.place) = search rules in
    let found : c.in-Some.field-0.named ≡ means_of mid.names.now c.in-Name.field-0.now = search rules in
    unit_begun c.args.levels c.args.self.now mid c.name.new.self _ _ _ told.stays.names told.none_counted told.no_node told.as_defined is (λ f h. c.name.ensures.as_defined ∙ ap (λ o. shown_built mid.machine.nodes mid.nodes.now (named_unit o c.in-Name.place (ahead_by mid) (machine_of mid.machine))) found)

pub unit-returns-in-Skip-clause-as_defined : goal.unit-returns-in-Skip-clause-as_defined
unit-returns-in-Skip-clause-as_defined t c =
    let mid = c.pull.new.self in
    let told = c.in_ok-sign.ensures in
    let is : judged_mark c.in_ok-sign.field-0 ≡ Some (skipping c.in-Skip.field-0) = search rules in
    unit_begun c.args.levels c.args.self.now mid c.put.new.self _ _ (Ok c.put.result) told.stays.names told.none_counted told.no_node told.as_defined is (λ f h. ap Ok (c.put.ensures.as_defined ∙ word_shown (standing mid) Skip skip refl refl refl))

pub unit-returns-in-Stop-clause-as_defined : goal.unit-returns-in-Stop-clause-as_defined
unit-returns-in-Stop-clause-as_defined t c =
    let mid = c.pull.new.self in
    let told = c.in_ok-sign.ensures in
    let is : judged_mark c.in_ok-sign.field-0 ≡ Some (stopping c.in-Stop.field-0) = search rules in
    unit_begun c.args.levels c.args.self.now mid c.put-in-Stop.new.self _ _ (Ok c.put-in-Stop.result) told.stays.names told.none_counted told.no_node told.as_defined is (λ f h. ap Ok (c.put-in-Stop.ensures.as_defined ∙ word_shown (standing mid) Stop stop refl refl refl))

pub unit-returns-in_err-inner-in-Open-clause-as_defined : goal.unit-returns-in_err-inner-in-Open-clause-as_defined
unit-returns-in_err-inner-in-Open-clause-as_defined t c =
    let mid = c.pull.new.self in
    let told = c.in_ok-sign.ensures in
    let is : judged_mark c.in_ok-sign.field-0 ≡ Some (opening c.in-Open.place) = search rules in
    let fewer : signs_left (ahead_by mid) < signs_left (ahead_by c.args.self.now) = search rules in
    unit_begun c.args.levels c.args.self.now mid c.choice.new.self _ _ _ told.stays.names told.none_counted told.no_node told.as_defined is (λ f h. built_refused _ c.choice.new.self _ c.from_residual-in_err-inner-in-Open.ensures.1 ∙ sym (ap (shown_built mid.machine.nodes mid.nodes.now) (first_err _ _ _ _ _ (c.in_err-inner-in-Open.ensures.as_defined f (omega arith)))))

pub unit-returns-then-not-matches-clause-as_defined : goal.unit-returns-then-not-matches-clause-as_defined
unit-returns-then-not-matches-clause-as_defined t c =
    let mid = c.pull.new.self in
    let told = c.in_ok-sign.ensures in
    let is : judged_mark c.in_ok-sign.field-0 ≡ Some (opening c.in-Open.place) = search rules in
    let fewer : signs_left (ahead_by mid) < signs_left (ahead_by c.args.self.now) = search rules in
    let open' : is_closing (maybe_mark c.in_ok-inner-in-Open.inner.next) ≡ false = search rules in
    unit_begun c.args.levels c.args.self.now mid c.choice.new.self _ _ (Err (Unfit c.in-Open.place)) told.stays.names told.none_counted told.no_node told.as_defined is (λ f h. not_closed _ _ _ _ (shape_at c.in_ok-inner-in-Open.inner c.choice.new.self) (c.in_ok-inner-in-Open.ensures.as_defined f (omega arith)) open')

pub unit-returns-else-not-matches-clause-as_defined : goal.unit-returns-else-not-matches-clause-as_defined
unit-returns-else-not-matches-clause-as_defined t c =
    let mid = c.pull.new.self in
    let told = c.in_ok-sign.ensures in
    let is : judged_mark c.in_ok-sign.field-0 ≡ Some (opening c.in-Open.place) = search rules in
    let fewer : signs_left (ahead_by mid) < signs_left (ahead_by c.args.self.now) = search rules in
    let seen : is_closing (maybe_mark c.in_ok-inner-in-Open.inner.next) ≡ true = search rules in
    unit_begun c.args.levels c.args.self.now mid c.choice.new.self _ _ (Ok c.in_ok-inner-in-Open.inner.part) told.stays.names told.none_counted told.no_node told.as_defined is (λ f h. closed _ _ _ _ (shape_at c.in_ok-inner-in-Open.inner c.choice.new.self) (c.in_ok-inner-in-Open.ensures.as_defined f (omega arith)) seen)

pub unit-returns-in_err-inner-in-Not-clause-as_defined : goal.unit-returns-in_err-inner-in-Not-clause-as_defined
unit-returns-in_err-inner-in-Not-clause-as_defined t c =
    let mid = c.pull.new.self in
    let told = c.in_ok-sign.ensures in
    let is : judged_mark c.in_ok-sign.field-0 ≡ Some (negating c.in-Not.place) = search rules in
    let fewer : signs_left (ahead_by mid) < signs_left (ahead_by c.args.self.now) = search rules in
    unit_begun c.args.levels c.args.self.now mid c.unit.new.self _ _ _ told.stays.names told.none_counted told.no_node told.as_defined is (λ f h. built_refused _ c.unit.new.self _ c.from_residual-in_err-inner-in-Not.ensures.1 ∙ sym (ap (shown_built mid.machine.nodes mid.nodes.now) (built_err _ _ _ _ _ (c.in_err-inner-in-Not.ensures.as_defined f (omega arith)))))

pub unit-returns-in_ok-inner-in-Not-clause-as_defined : goal.unit-returns-in_ok-inner-in-Not-clause-as_defined
unit-returns-in_ok-inner-in-Not-clause-as_defined t c =
    let mid = c.pull.new.self in
    let told = c.in_ok-sign.ensures in
    let is : judged_mark c.in_ok-sign.field-0 ≡ Some (negating c.in-Not.place) = search rules in
    let fewer : signs_left (ahead_by mid) < signs_left (ahead_by c.args.self.now) = search rules in
    unit_begun c.args.levels c.args.self.now mid c.negate.new.self _ _ _ told.stays.names told.none_counted told.no_node told.as_defined is (λ f h. c.negate.ensures.as_defined mid.machine.nodes mid.nodes.now (unit_from f (means_of mid.names.now) (c.args.levels - 1) (ahead_by mid) (machine_of mid.machine)) (c.in_ok-inner-in-Not.ensures.as_defined f (omega arith)))

pub unit-returns-in-Close-clause-as_defined : goal.unit-returns-in-Close-clause-as_defined
unit-returns-in-Close-clause-as_defined t c =
    let mid = c.pull.new.self in
    let told = c.in_ok-sign.ensures in
    let is : judged_mark c.in_ok-sign.field-0 ≡ Some (closing c.in-Close.place) = search rules in
    unit_begun c.args.levels c.args.self.now mid mid _ _ (Err (Unfit c.in-Close.place)) told.stays.names told.none_counted told.no_node told.as_defined is (λ f h. refl)

pub unit-returns-in-Close-2-clause-as_defined : goal.unit-returns-in-Close-2-clause-as_defined
unit-returns-in-Close-2-clause-as_defined t c =
    let mid = c.pull.new.self in
    let told = c.in_ok-sign.ensures in
    let is : judged_mark c.in_ok-sign.field-0 ≡ Some (repeating c.in-Close.place) = search rules in
    unit_begun c.args.levels c.args.self.now mid mid _ _ (Err (Unfit c.in-Close.place)) told.stays.names told.none_counted told.no_node told.as_defined is (λ f h. refl)

pub unit-returns-in-Close-3-clause-as_defined : goal.unit-returns-in-Close-3-clause-as_defined
unit-returns-in-Close-3-clause-as_defined t c =
    let mid = c.pull.new.self in
    let told = c.in_ok-sign.ensures in
    let is : judged_mark c.in_ok-sign.field-0 ≡ Some (following c.in-Close.place) = search rules in
    unit_begun c.args.levels c.args.self.now mid mid _ _ (Err (Unfit c.in-Close.place)) told.stays.names told.none_counted told.no_node told.as_defined is (λ f h. refl)

pub unit-returns-in-Close-4-clause-as_defined : goal.unit-returns-in-Close-4-clause-as_defined
unit-returns-in-Close-4-clause-as_defined t c =
    let mid = c.pull.new.self in
    let told = c.in_ok-sign.ensures in
    let is : judged_mark c.in_ok-sign.field-0 ≡ Some (choosing c.in-Close.place) = search rules in
    unit_begun c.args.levels c.args.self.now mid mid _ _ (Err (Unfit c.in-Close.place)) told.stays.names told.none_counted told.no_node told.as_defined is (λ f h. refl)
