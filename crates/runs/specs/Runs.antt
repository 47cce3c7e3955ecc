-- Runs: the situations that a drawing goes through and the actions done between them. A run is a guarded string.
use Rattle.std.specs.Prelude.{ℕ, ◌<◌, List, [], ◌∷◌, ◌++◌, length, Some, None, Option}
use Rattle.std.specs.Option.{option_map}

-- A move of a run: the situation that it is made in, and the action done there.
pub record Move : Type 0 where
  pub situation : ℕ
  pub action : ℕ

-- The run s0 a1 s1 .. an sn: its n moves (s0, a1), (s1, a2), .. and the situation sn that it ends in.
pub record Run : Type 0 where
  pub moves : List Move
  pub last : ℕ

-- The run of no action: one situation.
abbrev pub single : ℕ → Run
single s = record { moves = []; last = s }

-- The run s a t of one action.
abbrev pub one_action : ℕ → ℕ → ℕ → Run
one_action s a t = record { moves = record { situation = s; action = a } ∷ []; last = t }

-- The situation that a run begins in.
abbrev pub first_before : List Move → ℕ → ℕ
first_before [] last = last
first_before (move ∷ moves) last = move.situation

abbrev pub first_of : Run → ℕ
first_of run = first_before run.moves run.last

-- How many actions a run has.
abbrev pub actions_of : Run → ℕ
actions_of run = length run.moves

-- Two runs as one, where the first ends in the situation that the second begins in: that situation is written once.
abbrev pub joined : Run → Run → Run
joined x y = record { moves = x.moves ++ y.moves; last = y.last }

-- Each move has one of n situations and one of k actions.
abbrev pub MovesWithin : ℕ → ℕ → List Move → Type 0
MovesWithin n k [] = Unit {0}
MovesWithin n k (move ∷ moves) = (move.situation < n) × (move.action < k) × MovesWithin n k moves

-- All situations of a run are among the n, and all its actions among the k.
abbrev pub Within : ℕ → ℕ → Run → Type 0
Within n k run = MovesWithin n k run.moves × (run.last < n)

-- The run s0 a1 s1 .. an sn that bytes write down in this order: none where their count is even.
abbrev pub moved_first : ℕ → ℕ → Run → Run
moved_first s a run = record { moves = record { situation = s; action = a } ∷ run.moves; last = run.last }

abbrev pub run_of : List ℕ → Option Run
run_of [] = None
run_of (s ∷ []) = Some (single s)
run_of (s ∷ a ∷ bytes) = option_map (moved_first s a) (run_of bytes)
