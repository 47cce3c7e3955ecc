-- What the builders build is derived: by induction on the fuel.
use Rattle.grammar.proofs.Sound.{builders_sound}
use Rattle.grammar.proofs.theorems.what_is_built_is_derived.Goals as goal

pub returns : goal.returns
returns c = record { built_is_derived = builders_sound }
