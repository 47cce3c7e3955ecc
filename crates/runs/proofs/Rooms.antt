-- Following a pair in a table with room for so many gives the list that there would be without a bound, where that fits, and otherwise no room is left.
use Rattle.std.proofs.Common.{◌≡◌, ℕ, ◌<◌, ◌≤◌, Bool, true, false, cond, ltb, leb, List, [], ◌∷◌, ◌++◌, length, sym, refl, ap, ◌∙◌, ⊎_elim, arith}
use Rattle.std.proofs.lemmas.Bool.{cases_Bool, cond-false, cond-true, le-leb, lt-leb, ltb-false, ltb-true}
use Rattle.runs.specs.Flows.{FlowMeaning}
use Rattle.runs.specs.Pairs.{Pair}
use Rattle.runs.specs.Rooms.{Room, holds, none_left, put_in, puts_room}
use Rattle.runs.specs.Runs.{Move}
use Rattle.runs.specs.Walks.{Listed, followed, has, put_unless}
use Rattle.runs.proofs.Listing.{followed_front, length_more, reached}

module _ (room : ℕ) (f g : FlowMeaning) (i : ℕ) (p : Pair) where
  -- Once no room is left, none is.
  none_stays : (moves : List Move) → puts_room room f g none_left i p moves ≡ none_left
  none_stays [] = refl
  none_stays (move ∷ moves) = none_stays moves

  -- The list, where it fits the room.
  abbrev fitting : List Listed → Room
  fitting list = cond (leb (length list) room) (holds list) none_left

  -- Following a pair within the room is following it, and then to see whether all fits.
  pub followed_in_room : (moves : List Move) (list : List Listed) → length list ≤ room
      → puts_room room f g (holds list) i p moves ≡ cond (leb (length (followed f g list i p moves)) room) (holds (followed f g list i p moves)) none_left
  followed_in_room [] list h = sym (cond-true _ _ _ (le-leb _ _ h))
  followed_in_room (move ∷ moves) list h = go (reached f g i p move) (has (reached f g i p move).pair list) (λ longer fits. followed_in_room moves longer fits)
    where
      go : (entry : Listed) (b : Bool)
          → ((longer : List Listed) → length longer ≤ room → puts_room room f g (holds longer) i p moves ≡ fitting (followed f g longer i p moves))
          → puts_room room f g (put_in room b list entry) i p moves ≡ fitting (followed f g (put_unless b list entry) i p moves)
      go entry true rest = rest list h
      go entry false rest =
          ⊎_elim
          (λ (left : ltb (length list) room ≡ true).
          ap (λ table. puts_room room f g table i p moves) (cond-true (ltb (length list) room) _ _ left)
          ∙ rest (list ++ (entry ∷ [])) (omega (arith, length_more list entry, ltb-true _ _ left)))
          (λ (none : ltb (length list) room ≡ false).
          let over : room < length (followed f g (list ++ (entry ∷ [])) i p moves) =
          omega (arith, length_more list entry, ltb-false _ _ none, (followed_front f g i p moves (list ++ (entry ∷ []))).0) in
          ap (λ table. puts_room room f g table i p moves) (cond-false (ltb (length list) room) _ _ none) ∙ none_stays moves ∙ sym (cond-false _ _ _ (lt-leb _ _ over)))
          (cases_Bool (ltb (length list) room))
