-- The walk: pairs of codes listed breadth first, until the flows disagree at one, or all have been followed.
use Rattle.std.specs.Prelude.{ℕ, zero, suc, Bool, true, false, ◌||◌, List, [], ◌∷◌, ◌++◌, length, nat_le, nat_lt, slice_index_or}
use Rattle.runs.specs.Flows.{FlowMeaning}
use Rattle.runs.specs.Pairs.{Pair, disagree_at, next_pair, same_pair, start_pair}
use Rattle.runs.specs.Runs.{Move}

-- A pair that the walk listed, with the number of the pair that it was first met from, and the move that led to it.
pub record Listed : Type 0 where
  pub pair : Pair
  pub from : ℕ
  pub move : Move

-- The start is met from no pair and by no move; zeros stand for them.
abbrev pub no_move : Move
no_move = record { situation = 0; action = 0 }

abbrev pub no_listed : Listed
no_listed = record { pair = record { left = 0; right = 0 }; from = 0; move = no_move }

abbrev pub listed_start : FlowMeaning → FlowMeaning → Listed
listed_start f g = record { pair = start_pair f g; from = 0; move = no_move }

-- The pair with this number.
abbrev pub at : List Listed → ℕ → Pair
at list i = (slice_index_or list i no_listed).pair

-- A pair is listed.
abbrev pub has : Pair → List Listed → Bool
has p [] = false
has p (entry ∷ list) = same_pair entry.pair p || has p list

-- The moves that there are: the situations upward and, within a situation, the actions upward.
abbrev pub moves_in : ℕ → ℕ → List Move
moves_in s zero = []
moves_in s (suc a) = moves_in s a ++ (record { situation = s; action = a } ∷ [])

abbrev pub moves_below : ℕ → ℕ → List Move
moves_below zero k = []
moves_below (suc s) k = moves_below s k ++ moves_in s k

-- A pair that is not yet listed is put at the end.
abbrev pub put_unless : Bool → List Listed → Listed → List Listed
put_unless true list entry = list
put_unless false list entry = list ++ (entry ∷ [])

abbrev pub put : List Listed → Listed → List Listed
put list entry = put_unless (has entry.pair list) list entry

-- Pair number i, which is p, is followed along the moves.
abbrev pub followed : FlowMeaning → FlowMeaning → List Listed → ℕ → Pair → List Move → List Listed
followed f g list i p [] = list
followed f g list i p (move ∷ moves) = followed f g (put list (record { pair = next_pair f g p move; from = i; move = move })) i p moves

-- The list when the first i pairs have been followed, of flows of n situations and k actions.
abbrev pub list_after : ℕ → ℕ → FlowMeaning → FlowMeaning → ℕ → List Listed
list_after n k f g zero = listed_start f g ∷ []
list_after n k f g (suc i) = followed f g (list_after n k f g i) i (at (list_after n k f g i) i) (moves_below n k)

-- How a walk ends: equal with so many pairs listed, different at the pair of a number, or with a pair to put down and no room for it.
pub data Ending : Type 0 where
  equal : ℕ → Ending
  different : ℕ → Ending
  full : Ending

-- The turn of pair i: it is there or not, the flows disagree at it or not, what it leads to has room or not.
abbrev pub turn : Bool → Bool → Bool → ℕ → Ending → Ending
turn false disagrees room i onward = equal i
turn true true room i onward = different i
turn true false false i onward = full
turn true false true i onward = onward

-- The walk from pair i on, with room for so many pairs; as many turns as there is room for, and one more, are enough.
abbrev pub walk_from : ℕ → ℕ → FlowMeaning → FlowMeaning → ℕ → ℕ → ℕ → Ending
walk_from n k f g room zero i = full
walk_from n k f g room (suc turns) i =
    turn (nat_lt i (length (list_after n k f g i))) (disagree_at f g (at (list_after n k f g i) i)) (nat_le (length (list_after n k f g (suc i))) room) i
    (walk_from n k f g room turns (suc i))

-- The walk in a table with room for so many pairs. The start wants room too.
abbrev pub walk : ℕ → ℕ → FlowMeaning → FlowMeaning → ℕ → Ending
walk n k f g room = turn true false (nat_lt 0 room) 0 (walk_from n k f g room (suc room) 0)
