-- How a walk of the code ends, and what its table holds then.
use Rattle.std.specs.Prelude.{◌≡◌, ℕ, List, Ok, Err, Result}
use Rattle.runs.specs.Flows.{FlowMeaning}
use Rattle.runs.specs.Walks as walks
use Rattle.walk.specs.Judged.{walk_of}
use Rattle.walk.specs.Records.{table_of}
use Rattle.walk.specs.declared.ending.Ending.{Ending}
use Rattle.walk.specs.declared.ending.Ending.TheVariants.{Different, Equal}
use Rattle.walk.specs.declared.fault.WalkFault.{WalkFault}
use Rattle.walk.specs.declared.fault.WalkFault.TheVariants.{TableFull}
use Rattle.walk.specs.declared.record.PairRecord.{PairRecord}

-- An ending, as the code has it; a full table is a refusal.
abbrev pub ending_of : walks.Ending → Result Ending WalkFault
ending_of (walks.equal count) = Ok (Equal count)
ending_of (walks.different i) = Ok (Different i)
ending_of walks.full = Err TableFull

-- The table has the pairs that were listed, with zeros behind them; nothing is said of a table that was full.
abbrev pub Stands : FlowMeaning → FlowMeaning → ℕ → List PairRecord → walks.Ending → Type 0
Stands f g room table (walks.equal count) = table ≡ table_of room (walks.list_after f.situations f.actions f g count)
Stands f g room table (walks.different i) = table ≡ table_of room (walks.list_after f.situations f.actions f g i)
Stands f g room table walks.full = Unit {0}

-- The code ends as the walk does, and leaves its list.
pub record Walked (f g : FlowMeaning) (room : ℕ) (table : List PairRecord) (r : Result Ending WalkFault) : Type 0 where
  pub ends : r ≡ ending_of (walk_of f g room)
  pub stands : Stands f g room table (walk_of f g room)
