-- The two parts of bytes that a blank, a colon and a blank part.
use Rattle.std.specs.Prelude.{ℕ, zero, suc, ◌+◌, Bool, cond, ◌&&◌, List, length, take, drop, Some, None, Option, ◌==◌, slice_index}
use Rattle.std.specs.Option.{option_map}
use Rattle.words.specs.declared.split_halves.Halves.{Halves}

-- At the place stand a blank (32), a colon (58) and a blank.
abbrev pub parts_at : List ℕ → ℕ → Bool
parts_at bytes i = slice_index bytes i == 32 && (slice_index bytes (i + 1) == 58 && slice_index bytes (i + 2) == 32)

-- The last place below n at which they stand.
abbrev pub last_below : List ℕ → ℕ → Option ℕ
last_below bytes zero = None
last_below bytes (suc i) = cond (parts_at bytes i) (Some i) (last_below bytes i)

-- The bytes in front of them, and those behind them.
pub record TwoParts : Type 0 where
  pub front : List ℕ
  pub behind : List ℕ

abbrev pub parted_at : List ℕ → ℕ → TwoParts
parted_at bytes i = record { front = take i bytes; behind = drop (i + 3) bytes }

-- The bytes parted where they stand last.
abbrev pub halves_of : List ℕ → Option TwoParts
halves_of bytes = option_map (parted_at bytes) (last_below bytes (length bytes))

-- The two parts of the code.
abbrev pub shown : Halves → TwoParts
shown halves = record { front = halves.front.now; behind = halves.behind.now }
