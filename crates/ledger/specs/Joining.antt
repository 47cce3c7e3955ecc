-- Which group a new flow joins.
use Rattle.std.specs.Prelude.{ℕ, suc, cond, List, [], ◌∷◌, ◌==◌}
use Rattle.runs.specs.Flows.{FlowMeaning}
use Rattle.runs.specs.Walks.{Ending, different, equal, full}
use Rattle.sheet.specs.Laid.{LaidOut}
use Rattle.walk.specs.Judged.{walk_of}
use Rattle.ledger.specs.Ledgers.{Filed, first_marked, flow_of}

-- It joins the group with this mark; or it begins one; or the pair table is too small to judge it against the flow at this position, from 1.
pub data Place : Type 0 where
  joins : ℕ → Place
  alone : Place
  no_room : ℕ → Place

-- How the walk against the first flow of a group, which stands at a position, decides; and what comes of the later groups.
abbrev pub decided : Ending → ℕ → ℕ → Place → Place
decided (equal count) mark position later = joins mark
decided (different i) mark position later = later
decided full mark position later = no_room position

-- The new flow, on the left, is judged against the first flow of each group in order, of those from place i on.
abbrev pub place_from : LaidOut → FlowMeaning → ℕ → List Filed → ℕ → List Filed → Place
place_from laid new room all i [] = alone
place_from laid new room all i (f ∷ rest) =
    cond (first_marked all f.mark == i)
    (decided (walk_of new (flow_of laid f.shape) room) f.mark (suc i) (place_from laid new room all (suc i) rest))
    (place_from laid new room all (suc i) rest)

abbrev pub place_of : LaidOut → FlowMeaning → ℕ → List Filed → Place
place_of laid new room filed = place_from laid new room filed 0 filed
