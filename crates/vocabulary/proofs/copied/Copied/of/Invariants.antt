-- The masks of the tests below t are written.
use Rattle.std.proofs.Common.{◌≡◌, ℕ, ◌<◌, length, get_or}
use Rattle.vocabulary.specs.Masks.{mask_of}
use Rattle.vocabulary.proofs.copied.Copied.of.Given as goal

abbrev pub invariant-loop-t : goal.invariant-loop-t
invariant-loop-t g l = (length l.masks ≡ 32) × ((k : ℕ) → k < l.t → get_or l.masks k 0 ≡ mask_of (g.V.Vocabulary.meaning l.v) k)
