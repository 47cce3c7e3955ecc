-- Pairs of codes: where two flows stand when the same moves were made in both.
use Rattle.std.specs.Prelude.{◌≡◌, ℕ, ◌≤◌, Bool, false, not, ◌&&◌, ◌||◌, List, [], ◌∷◌, length, ◌==◌}
use Rattle.runs.specs.Flows.{FlowMeaning}
use Rattle.runs.specs.Runs.{Move, MovesWithin}

-- A code of the left flow and a code of the right one.
pub record Pair : Type 0 where
  pub left : ℕ
  pub right : ℕ

-- Two pairs are the same where both their codes are.
abbrev pub same_pair : Pair → Pair → Bool
same_pair p q = p.left == q.left && p.right == q.right

-- One of the pairs is this one.
abbrev pub is_among : Pair → List Pair → Bool
is_among p [] = false
is_among p (q ∷ pairs) = same_pair q p || is_among p pairs

-- No pair stands twice.
abbrev pub Apart : List Pair → Type 0
Apart [] = Unit {0}
Apart (p ∷ pairs) = (is_among p pairs ≡ false) × Apart pairs

-- The pair that the two flows start at.
abbrev pub start_pair : FlowMeaning → FlowMeaning → Pair
start_pair f g = record { left = f.start; right = g.start }

-- The pair that a move leads to.
abbrev pub next_pair : FlowMeaning → FlowMeaning → Pair → Move → Pair
next_pair f g p move = record { left = f.next p.left move.situation move.action; right = g.next p.right move.situation move.action }

-- Two accept masks disagree where they are not the same.
abbrev pub disagree : ℕ → ℕ → Bool
disagree a b = not (a == b)

-- The flows accept different situations at a pair.
abbrev pub disagree_at : FlowMeaning → FlowMeaning → Pair → Bool
disagree_at f g p = disagree (f.accept p.left) (g.accept p.right)

-- The pair that moves lead to.
abbrev pub pair_after : FlowMeaning → FlowMeaning → Pair → List Move → Pair
pair_after f g p [] = p
pair_after f g p (move ∷ moves) = pair_after f g (next_pair f g p move) moves

-- A meeting pair of two flows of n situations and k actions: some moves lead to it from the starts.
abbrev pub Meeting : ℕ → ℕ → FlowMeaning → FlowMeaning → Pair → Type 0
Meeting n k f g p = (moves : List Move) × MovesWithin n k moves × (pair_after f g (start_pair f g) moves ≡ p)

-- Each of the pairs is a meeting pair.
abbrev pub AllMeeting : ℕ → ℕ → FlowMeaning → FlowMeaning → List Pair → Type 0
AllMeeting n k f g [] = Unit {0}
AllMeeting n k f g (p ∷ pairs) = Meeting n k f g p × AllMeeting n k f g pairs

-- There are at most so many meeting pairs: no list of them in which none stands twice is longer.
abbrev pub FewMeeting : ℕ → ℕ → FlowMeaning → FlowMeaning → ℕ → Type 0
FewMeeting n k f g most = (pairs : List Pair) → Apart pairs → AllMeeting n k f g pairs → length pairs ≤ most
