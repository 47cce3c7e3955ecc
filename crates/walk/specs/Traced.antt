-- The moves that led to a record of a table, and that going back through the table ends.
use Rattle.std.specs.Prelude.{ℕ, ◌<◌, ◌≤◌, List, map, length, reverse, slice_index_or}
use Rattle.runs.specs.Runs.{Move}
use Rattle.runs.specs.Tracing.{traced_back}
use Rattle.walk.specs.Records.{listed_of, zero_record}
use Rattle.walk.specs.declared.record.PairRecord.{PairRecord}

-- There is a record i, and it and those before it, but the start, were met from an earlier one.
abbrev pub MetEarlier : List PairRecord → ℕ → Type 0
MetEarlier table i = (i < length table) × ((j : ℕ) → 0 < j → j ≤ i → (slice_index_or table j zero_record).from < j)

-- The moves that led to record i.
abbrev pub moves_to : List PairRecord → ℕ → List Move
moves_to table i = traced_back (map listed_of table) i i

-- The move that led to a record from the one that it was met from.
abbrev pub move_to : PairRecord → Move
move_to entry = (listed_of entry).move

-- The same moves on the way back, from the last to the first.
abbrev pub moves_back : List PairRecord → ℕ → List Move
moves_back table i = reverse (moves_to table i)
