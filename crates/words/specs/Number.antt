-- The number that a word writes.
use Rattle.std.specs.Prelude.{ℕ, ◌+◌, ◌-◌, ◌*◌, ◌^◌, cond, ◌&&◌, List, [], ◌∷◌, length, Some, None, Option, nat_lt}
use Rattle.std.specs.Str.{all_ascii_digits}

-- The value of digits, first digit first, behind those that gave `n`: each takes ten times the value so far and adds itself.
abbrev pub value_on : ℕ → List ℕ → ℕ
value_on n [] = n
value_on n (b ∷ bs) = value_on (n * 10 + (b - 48)) bs

-- Bytes behind digits that gave `n` go on with a number if they are digits and the value fits 64 bits.
abbrev pub number_on : ℕ → List ℕ → Option ℕ
number_on n bs = cond (all_ascii_digits bs && nat_lt (value_on n bs) (2 ^ 64)) (Some (value_on n bs)) None

-- A number is one or more digits whose value fits 64 bits.
abbrev pub number_of : List ℕ → Option ℕ
number_of bs = cond (nat_lt 0 (length bs)) (number_on 0 bs) None
