-- Where a walk is that found the flows to disagree.
use Rattle.std.specs.Prelude.{◌≡◌, ℕ, List, length}
use Rattle.runs.specs.Flows.{FlowMeaning}
use Rattle.runs.specs.Walks.{different, list_after}
use Rattle.walk.specs.Judged.{walk_of}
use Rattle.walk.specs.Records.{table_of}
use Rattle.walk.specs.declared.record.PairRecord.{PairRecord}

-- The walk in a table of this size ended at pair i, and the table has the pairs that were listed then.
abbrev pub EndedAt : FlowMeaning → FlowMeaning → List PairRecord → ℕ → Type 0
EndedAt f g table i =
    (walk_of f g (length table) ≡ different i) × (table ≡ table_of (length table) (list_after f.situations f.actions f g i))
