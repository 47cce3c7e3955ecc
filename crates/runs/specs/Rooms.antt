-- Pairs put down in a table with room for so many: it stops at a pair that is to be put down when no room is left.
use Rattle.std.specs.Prelude.{ℕ, Bool, true, false, cond, List, [], ◌∷◌, ◌++◌, length, nat_lt}
use Rattle.runs.specs.Flows.{FlowMeaning}
use Rattle.runs.specs.Pairs.{Pair, next_pair}
use Rattle.runs.specs.Runs.{Move}
use Rattle.runs.specs.Walks.{Listed, has}

-- The table holds a list, or a pair was to be put down and there was no room left for it.
pub data Room : Type 0 where
  holds : List Listed → Room
  none_left : Room

-- An entry goes to the end of a list that does not have its pair yet, where there is room.
abbrev pub put_in : ℕ → Bool → List Listed → Listed → Room
put_in room true list entry = holds list
put_in room false list entry = cond (nat_lt (length list) room) (holds (list ++ (entry ∷ []))) none_left

abbrev pub put_room : ℕ → Room → Listed → Room
put_room room none_left entry = none_left
put_room room (holds list) entry = put_in room (has entry.pair list) list entry

-- Pair number i, which is p, is followed along the moves.
abbrev pub puts_room : ℕ → FlowMeaning → FlowMeaning → Room → ℕ → Pair → List Move → Room
puts_room room f g table i p [] = table
puts_room room f g table i p (move ∷ moves) = puts_room room f g (put_room room table (record { pair = next_pair f g p move; from = i; move = move })) i p moves
