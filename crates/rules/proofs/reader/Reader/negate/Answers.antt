-- A test gets the node of its negation.
use Rattle.std.proofs.Common.{Ok, ap, ◌∙◌}
use Rattle.std.proofs.lemmas.Bool.{not-false}
use Rattle.rules.specs.Builders.{part_at}
use Rattle.rules.proofs.Shapes.{negated}
use Rattle.rules.proofs.reader.Reader.negate.Goals as goal

pub returns-clause-as_defined : goal.returns-clause-as_defined
returns-clause-as_defined c = λ used nodes d e.
    ap Ok c.put.ensures.as_defined ∙ negated used nodes c.args.place d (part_at c.args.unit c.args.self.now) (not-false _ c.if-not-unit.false) e
