-- After the numbers below s, the mask fits s bits, and they are the answers.
use Rattle.std.proofs.Common.{◌≡◌, ℕ, ◌<◌, ◌^◌, Bool}
use Rattle.masks.specs.Bits.{bits_below}
use Rattle.masks.proofs.making.mask_where.Given as goal

abbrev pub invariant-loop-s : goal.invariant-loop-s
invariant-loop-s g l =
    (l.mask < 2 ^ l.s)
    × ((f : ℕ → Bool) → ((s : ℕ) → s < l.count → (b : Bool) → goal.F-post g l.yes s b → b ≡ f s) → l.mask ≡ bits_below f l.s)
