-- The moves that there are: each is within bounds, and each within bounds is among them.
use Rattle.std.proofs.Common.{◌≡◌, ℕ, zero, suc, ◌<◌, ◌≤◌, ◌⊎◌, List, [], ◌∷◌, ◌++◌, subst, inl, inr, ⊎_elim, arith}
use Rattle.std.proofs.lemmas.Bool.{cases_lt}
use Rattle.runs.specs.Runs.{Move, MovesWithin}
use Rattle.runs.specs.Walks.{moves_below, moves_in}

-- A move is one of these.
abbrev pub OneOf : Move → List Move → Type 0
OneOf move [] = ⊥
OneOf move (first ∷ moves) = (move ≡ first) ⊎ OneOf move moves

-- One of the first moves is one of all.
one_of_left : (move : Move) (xs ys : List Move) → OneOf move xs → OneOf move (xs ++ ys)
one_of_left move [] ys h = absurd h
one_of_left move (x ∷ xs) ys (inl e) = inl e
one_of_left move (x ∷ xs) ys (inr h) = inr (one_of_left move xs ys h)

-- So is one of those after them.
one_of_right : (move : Move) (xs ys : List Move) → OneOf move ys → OneOf move (xs ++ ys)
one_of_right move [] ys h = h
one_of_right move (x ∷ xs) ys h = inr (one_of_right move xs ys h)

-- A move of an action below k is among those of its situation.
one_of_row : (move : Move) (k : ℕ) → move.action < k → OneOf move (moves_in move.situation k)
one_of_row move zero h = absurd (omega arith)
one_of_row move (suc k) h = ⊎_elim
    (λ less. one_of_left move (moves_in move.situation k) _ (one_of_row move k less))
    (λ least. let e : move.action ≡ k = omega arith in one_of_right move (moves_in move.situation k) _ (inl (λ i. record { situation = move.situation; action = e i })))
    (cases_lt move.action k)

-- A move within bounds is among the moves that there are.
pub one_of_moves : (move : Move) (n k : ℕ) → move.situation < n → move.action < k → OneOf move (moves_below n k)
one_of_moves move zero k h a = absurd (omega arith)
one_of_moves move (suc n) k h a = ⊎_elim
    (λ less. one_of_left move (moves_below n k) _ (one_of_moves move n k less a))
    (λ least. let e : move.situation ≡ n = omega arith in one_of_right move (moves_below n k) _ (subst (λ s. OneOf move (moves_in s k)) e (one_of_row move k a)))
    (cases_lt move.situation n)

-- Moves within bounds, and more such moves, are within bounds.
pub within_append : (n k : ℕ) (xs ys : List Move) → MovesWithin n k xs → MovesWithin n k ys → MovesWithin n k (xs ++ ys)
within_append n k [] ys a b = b
within_append n k (x ∷ xs) ys a b = (a.0, a.1, within_append n k xs ys a.2 b)

-- The moves of one situation below n, with a of the k actions, are within bounds.
row_within : (n k s a : ℕ) → s < n → a ≤ k → MovesWithin n k (moves_in s a)
row_within n k s zero h l = tt
row_within n k s (suc a) h l = within_append n k (moves_in s a) _ (row_within n k s a h (omega arith)) (h, omega arith, tt)

-- So are those of s of the n situations.
rows_within : (n k s : ℕ) → s ≤ n → MovesWithin n k (moves_below s k)
rows_within n k zero h = tt
rows_within n k (suc s) h = within_append n k (moves_below s k) _ (rows_within n k s (omega arith)) (row_within n k s k (omega arith) (omega arith))

-- The moves that there are, are within bounds.
pub moves_within : (n k : ℕ) → MovesWithin n k (moves_below n k)
moves_within n k = rows_within n k n (omega arith)
