-- The entries in front of k are filled.
use Rattle.std.proofs.Common.{◌≡◌, ℕ, ◌<◌, length, get_or}
use Rattle.places.proofs.filling.table_of.Given as goal

abbrev pub invariant-loop-k : goal.invariant-loop-k
invariant-loop-k g l = (length l.table ≡ g.row.N) × ((j : ℕ) → j < l.k → goal.F-post g l.entry j (get_or l.table j l.fn.blank))
