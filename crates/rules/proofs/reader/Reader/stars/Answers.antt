-- The ways of the loop: a sign that is refused, one that ends the step, and one `*` more.
use Rattle.std.proofs.Common.{◌≡◌, true, false, Ok, sym, ap, ◌∙◌, subst, rules}
use Rattle.grammar.specs.Reading.{is_repeating, pull}
use Rattle.rules.specs.Builders.{part_at}
use Rattle.rules.specs.Machines.{machine_of}
use Rattle.rules.specs.Readers.{ahead_by, judged_mark, maybe_mark, means_of, standing}
use Rattle.rules.proofs.Refused.{grown_refused}
use Rattle.rules.proofs.Stars.{Turned, followed, turned_end, turned_err, turned_more}
use Rattle.rules.proofs.reader.Reader.stars.Goals as goal

pub returns-in_err-pull-clause-as_defined : goal.returns-in_err-pull-clause-as_defined
returns-in_err-pull-clause-as_defined c = λ used nodes d e.
    let inv = c.loop-next.invariant in
    let now = c.loop-next.self in
    let pulled = c.in_err-pull.ensures.as_defined ∙ ap (λ names. pull (means_of names) c.args.levels (ahead_by now) (machine_of now.machine)) (sym inv.stays.names) in
    grown_refused _ c.pull.new.self _ c.from_residual.ensures.1 ∙ turned_err _ _ _ _ _ inv.turned pulled used nodes d e

pub returns-then-not-matches-clause-as_defined : goal.returns-then-not-matches-clause-as_defined
returns-then-not-matches-clause-as_defined c = λ used nodes d e.
    let inv = c.loop-next.invariant in
    let now = c.loop-next.self in
    let told = c.in_ok-pull.ensures in
    let mid = standing c.pull.new.self in
    let next : maybe_mark c.map-next.result ≡ judged_mark c.in_ok-pull.field-0 = search rules in
    let other : is_repeating (judged_mark c.in_ok-pull.field-0) ≡ false = search rules in
    let pulled = told.as_defined ∙ ap (λ names. pull (means_of names) c.args.levels (ahead_by now) (machine_of now.machine)) (sym inv.stays.names) in
    ap (λ mark. Ok (followed (part_at c.loop-next.part now) mark mid)) next ∙ turned_end _ _ _ _ _ mid told.none_counted told.no_node inv.turned pulled other used nodes d e

pub loop-next-preserved : goal.loop-next-preserved
loop-next-preserved c =
    let inv = c.loop-next.invariant in
    let now = c.loop-next.self in
    let told = c.in_ok-pull.ensures in
    let more : is_repeating (judged_mark c.in_ok-pull.field-0) ≡ true = search rules in
    let pulled = told.as_defined ∙ ap (λ names. pull (means_of names) c.args.levels (ahead_by now) (machine_of now.machine)) (sym inv.stays.names) in
    let turned = turned_more _ _ _ _ _ (standing c.pull.new.self) told.none_counted told.no_node inv.turned pulled more in
    record { stays = search rules; further = search rules; turned = subst (Turned (means_of c.args.self.now.names.now) c.args.levels _) (sym c.put-part.ensures.as_defined) turned }
