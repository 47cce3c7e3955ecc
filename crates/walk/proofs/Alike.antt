-- Flows that are alike have as many situations.
use Rattle.std.proofs.Common.{◌≡◌, true, eqb}
use Rattle.std.proofs.lemmas.Bool.{and_parts, eqb-true}
use Rattle.runs.specs.Flows.{FlowMeaning}
use Rattle.walk.specs.Judged.{alike}

pub alike_situations : (f g : FlowMeaning) → alike f g ≡ true → f.situations ≡ g.situations
alike_situations f g h = eqb-true _ _ (and_parts (eqb f.situations g.situations) _ h).0
