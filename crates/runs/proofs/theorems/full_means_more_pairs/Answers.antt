-- The listed pairs are meeting pairs, and none of them stands twice.
use Rattle.runs.proofs.Full.{full_means_more_pairs}
use Rattle.runs.proofs.theorems.full_means_more_pairs.Goals as goal

pub returns : goal.returns
returns c = record { full_means_more_pairs = full_means_more_pairs }
