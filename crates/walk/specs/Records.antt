-- Pairs and records of the code, as the walk's definitions have them.
use Rattle.std.specs.Prelude.{ℕ, ◌-◌, List, ◌++◌, map, length, replicate}
use Rattle.runs.specs.Pairs as pairs
use Rattle.runs.specs.Runs.{Move}
use Rattle.runs.specs.Walks.{Listed}
use Rattle.walk.specs.declared.pair.CodePair.{CodePair}
use Rattle.walk.specs.declared.record.PairRecord.{PairRecord}

-- A pair of the code, by its two codes.
abbrev pub pair_of : CodePair → pairs.Pair
pair_of p = record { left = p.left; right = p.right }

-- The move of a situation and an action.
abbrev pub move_of : ℕ → ℕ → Move
move_of situation action = record { situation = situation; action = action }

-- A record of the code, as the walk lists it.
abbrev pub listed_of : PairRecord → Listed
listed_of r = record { pair = pair_of r.pair; from = r.from; move = record { situation = r.situation; action = r.action } }

-- The record of what the walk listed.
abbrev pub record_of : Listed → PairRecord
record_of entry = record {
  pair = record { left = entry.pair.left; right = entry.pair.right };
  from = entry.from;
  situation = entry.move.situation;
  action = entry.move.action;
}

-- A record with zeros alone.
abbrev pub zero_record : PairRecord
zero_record = record { pair = record { left = 0; right = 0 }; from = 0; situation = 0; action = 0 }

-- A table of so many records with zeros alone.
abbrev pub zero_table : ℕ → List PairRecord
zero_table n = replicate n zero_record

-- A table that holds what the walk listed, and behind it zeros.
abbrev pub table_of : ℕ → List Listed → List PairRecord
table_of size list = map record_of list ++ zero_table (size - length list)
