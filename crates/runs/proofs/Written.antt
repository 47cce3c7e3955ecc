-- Runs written down: they are read back, and take two bytes for each action and one more.
use Rattle.std.proofs.Common.{◌≡◌, ℕ, ◌+◌, ◌*◌, List, [], ◌∷◌, length, Some, refl, ap, arith}
use Rattle.std.specs.Option.{option_map}
use Rattle.runs.specs.Runs.{Move, Run, actions_of, moved_first, run_of}
use Rattle.runs.specs.Theorems.{WrittenIsReadBack}
use Rattle.runs.specs.Tracing.{written, written_before}

-- Moves and a last situation are read back.
read_back : (moves : List Move) (last : ℕ) → run_of (written_before moves last) ≡ Some (record { moves = moves; last = last })
read_back [] last = refl
read_back (move ∷ moves) last = ap (option_map (moved_first move.situation move.action)) (read_back moves last)

-- A run that is written down is read back.
pub written_is_read_back : WrittenIsReadBack
written_is_read_back run = read_back run.moves run.last

-- Each move takes two bytes, and the last situation one.
bytes_before_lem : (moves : List Move) (last : ℕ) → length (written_before moves last) ≡ 2 * length moves + 1
bytes_before_lem [] last = refl
bytes_before_lem (move ∷ moves) last = omega (arith, bytes_before_lem moves last)

-- A run of so many actions takes two bytes for each, and one for its last situation.
pub written_length : (run : Run) → length (written run) ≡ 2 * actions_of run + 1
written_length run = bytes_before_lem run.moves run.last
