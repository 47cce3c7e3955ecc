use Rattle.walk.proofs.Backward.{one_back}
use Rattle.walk.proofs.trail.TrailIterator.next.Goals as goal

pub returns-clause-steps : goal.returns-clause-steps
returns-clause-steps c = one_back c.args.self.now.table.now c.args.self.now.at c.args.self.now.met_earlier c.if-self-eq0.false
