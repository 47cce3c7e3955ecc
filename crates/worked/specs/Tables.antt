-- Pairs of codes, as the worked cases write them down.
use Rattle.std.specs.Prelude.{ℕ, List, map}
use Rattle.runs.specs.Pairs.{Pair}
use Rattle.walk.specs.Records.{pair_of}
use Rattle.walk.specs.declared.record.PairRecord.{PairRecord}

-- The pair of a left code and a right one.
abbrev pub pair : ℕ → ℕ → Pair
pair left right = record { left = left; right = right }

-- The pairs that stand in a table.
abbrev pub pairs_in : List PairRecord → List Pair
pairs_in table = map (λ entry. pair_of entry.pair) table
