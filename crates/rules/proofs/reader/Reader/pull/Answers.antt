-- The ways that a pull ends: a fault of the sign reader, the end that cannot come, a sign that is refused or taken.
use Rattle.std.proofs.Common.{Some, Ok, Err, sym, ap, ◌∙◌}
use Rattle.std.proofs.lemmas.Result.{err_from_is_err_and}
use Rattle.signs.specs.Reader.{mark_of}
use Rattle.grammar.specs.Reading.{judged, pull}
use Rattle.rules.specs.Machines.{machine_of, outcome}
use Rattle.rules.specs.Readers.{means_of, standing}
use Rattle.rules.specs.Aheads.{ahead_of}
use Rattle.rules.proofs.Judging.{end_refused, pull_moves, sign_judged}
use Rattle.rules.proofs.Peeling.{at_end, at_fault, at_sign}
use Rattle.rules.proofs.reader.Reader.pull.Goals as goal

pub returns-in_err-sign-clause-as_defined : goal.returns-in_err-sign-clause-as_defined
returns-in_err-sign-clause-as_defined c =
    let self = c.args.self.now in
    let next = c.next.ensures in
    let p = err_from_is_err_and c.from_residual.result c.from_residual.ensures.1 in
    let at = at_fault self.end self.signs c.next.new.self c.next.result next.keeps_the_text next.gives_the_next_sign next.stands_behind_the_sign _ c.in_err-sign.was in
    let is = ap (λ ahead. pull (means_of self.names.now) c.args.levels ahead (machine_of self.machine)) at ∙ ap Err (sym p.2) in
    rw p.1 (sym is)

pub returns-in_err-end-clause-as_defined : goal.returns-in_err-end-clause-as_defined
returns-in_err-end-clause-as_defined c =
    let self = c.args.self.now in
    let next = c.next.ensures in
    let means = means_of self.names.now in
    let p = err_from_is_err_and c.from_residual-in_err-end.result c.from_residual-in_err-end.ensures.1 in
    let at = at_end self.end self.signs c.next.new.self c.next.result next.keeps_the_text next.gives_the_next_sign next.stands_behind_the_sign (c.in_ok-sign.was ∙ ap Ok c.in_default.is) in
    let is = ap (λ ahead. pull means c.args.levels ahead (machine_of self.machine)) at ∙ end_refused self.end (machine_of self.machine) means c.args.levels _ (sym c.end.ensures ∙ c.in_err-end.was) ∙ ap Err (sym p.2) in
    rw p.1 (sym is)

pub returns-in_err-judge-clause-as_defined : goal.returns-in_err-judge-clause-as_defined
returns-in_err-judge-clause-as_defined c =
    let self = c.args.self.now in
    let next = c.next.ensures in
    let means = means_of self.names.now in
    let machine = machine_of self.machine in
    let mark = mark_of c.in-Some.sign in
    let p = err_from_is_err_and c.from_residual-in_err-judge.result c.from_residual-in_err-judge.ensures.1 in
    let at = at_sign self.end self.signs c.next.new.self c.next.result next.keeps_the_text next.gives_the_next_sign next.stands_behind_the_sign c.in-Some.sign (c.in_ok-sign.was ∙ ap Ok c.in-Some.is) in
    let j = sign_judged means c.args.levels mark machine c.named-named.result c.judge.result c.judge.new.self c.named-named.ensures c.judge.ensures.as_defined in
    let is = ap (λ ahead. pull means c.args.levels ahead machine) at ∙ ap (judged mark (ahead_of self.end c.next.new.self)) (j ∙ ap (λ r. outcome r c.judge.new.self) c.in_err-judge.was) ∙ ap Err (sym p.2) in
    rw p.1 (sym is)

pub returns-clause-as_defined : goal.returns-clause-as_defined
returns-clause-as_defined c =
    let self = c.args.self.now in
    let next = c.next.ensures in
    let means = means_of self.names.now in
    let machine = machine_of self.machine in
    let mark = mark_of c.in-Some.sign in
    let at = at_sign self.end self.signs c.next.new.self c.next.result next.keeps_the_text next.gives_the_next_sign next.stands_behind_the_sign c.in-Some.sign (c.in_ok-sign.was ∙ ap Ok c.in-Some.is) in
    let j = sign_judged means c.args.levels mark machine c.named-named.result c.judge.result c.judge.new.self c.named-named.ensures c.judge.ensures.as_defined in
    sym (ap (λ a. pull means c.args.levels a machine) at ∙ ap (judged mark (ahead_of self.end c.next.new.self)) (j ∙ ap (λ r. outcome r c.judge.new.self) c.in_ok-judge.was))

pub returns-clause-moves : goal.returns-clause-moves
returns-clause-moves c =
    pull_moves (means_of c.args.self.now.names.now) c.args.levels (Some (mark_of c.in-Some.sign)) (standing c.args.self.now) _ (returns-clause-as_defined c)
