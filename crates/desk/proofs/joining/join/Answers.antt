use Rattle.std.proofs.Common.{Ok, ap, ◌∙◌}
use Rattle.desk.proofs.joining.join.Goals as goal

pub returns : goal.returns
returns c = ap Ok c.of.ensures.meaning ∙ c.in_ok-new.ensures.meaning
