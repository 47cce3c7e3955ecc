-- Numbers read as sets of small numbers, a bit for each. Bit 0 is the lowest.
use Rattle.std.specs.Prelude.{ℕ, zero, suc, ◌+◌, ◌/◌, ◌%◌, ◌^◌, Bool, cond, ◌==◌}

-- Bit s of a number is 1.
abbrev pub bit : ℕ → ℕ → Bool
bit s number = number / 2 ^ s % 2 == 1

-- The number whose bits below n are 1 exactly where f says yes, and that has no others.
unfoldable pub bits_below : (ℕ → Bool) → ℕ → ℕ
bits_below f zero = 0
bits_below f (suc n) = bits_below f n + cond (f n) (2 ^ n) 0
