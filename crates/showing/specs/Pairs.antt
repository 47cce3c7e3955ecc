-- The records of a pair table as lines of text.
use Rattle.std.specs.Prelude.{ℕ, suc, List, [], ◌∷◌, ◌++◌, codes, decimal}
use Rattle.walk.specs.declared.record.PairRecord.{PairRecord}

-- A pair by its number: its two codes, the number of the pair that it was first met from, and the situation and action that led to it.
abbrev pub pair_line : ℕ → PairRecord → List ℕ
pair_line i r =
    codes "  pair " ++ (decimal i ++ (codes ": " ++ (decimal r.pair.left ++ (codes " " ++ (decimal r.pair.right
    ++ (codes " from " ++ (decimal r.from ++ (codes " by " ++ (decimal r.situation ++ (codes " " ++ (decimal r.action ++ codes "\n")))))))))))

-- A line for each, numbered on.
abbrev pub pair_lines : ℕ → List PairRecord → List ℕ
pair_lines i [] = []
pair_lines i (r ∷ rs) = pair_line i r ++ pair_lines (suc i) rs
