use Rattle.std.proofs.Common.{is_some, ap, ◌∙◌}
use Rattle.walk.proofs.Found.{found_among}
use Rattle.walk.proofs.checking.is_among.Goals as goal

pub returns : goal.returns
returns c = record { found = c.is_some.ensures ∙ ap is_some c.find.ensures.value ∙ found_among c.args.pair c.args.list.now }
