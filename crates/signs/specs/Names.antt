-- What a name is. Bytes are numbers below 256, and letters and digits go by their ASCII codes.
use Rattle.std.specs.Prelude.{ℕ, Bool, false, not, ◌&&◌, ◌||◌, List, [], ◌∷◌, length, codes, ◌==◌, nat_le}
use Rattle.std.specs.List.{list_all}
use Rattle.std.specs.Str.{bytes_eq}

-- The byte lies between two others, both included.
abbrev pub within : ℕ → ℕ → ℕ → Bool
within low high b = nat_le low b && nat_le b high

-- The letters are A to Z and a to z.
abbrev pub letter : ℕ → Bool
letter b = within 65 90 b || within 97 122 b

-- Behind its first byte a name has letters, the digits 0 to 9 and `_`.
abbrev pub inner : ℕ → Bool
inner b = within 65 90 b || (within 97 122 b || (within 48 57 b || b == 95))

-- A name of any length is spelled with a letter, then letters, digits or `_`.
abbrev pub spelled : List ℕ → Bool
spelled [] = false
spelled (b ∷ bs) = letter b && list_all inner bs

-- The two words that stand for themselves in a rule.
abbrev pub reserved : List ℕ → Bool
reserved bs = bytes_eq bs (codes "skip") || bytes_eq bs (codes "stop")

-- A name is spelled as one, has at most 12 bytes, and is neither of the two words.
abbrev pub is_name : List ℕ → Bool
is_name bs = (spelled bs && nat_le (length bs) 12) && not (reserved bs)
