use Rattle.std.proofs.Common.{is_some, ap, ◌∙◌}
use Rattle.walk.proofs.Found.{found_listed}
use Rattle.walk.proofs.listing.Listing.has.Goals as goal

pub returns : goal.returns
returns c = record { found = c.is_some.ensures ∙ ap is_some c.find.ensures.value ∙ found_listed c.args.pair _ }
