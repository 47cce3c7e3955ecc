-- Runs of bytes of one kind.
use Rattle.std.specs.Prelude.{ℕ, Bool, ◌||◌, List, take, drop, ◌==◌}
use Rattle.std.specs.List.{prefix_len}
use Rattle.signs.specs.Names.{inner}

-- A blank, a tab, a line feed and a carriage return part signs.
abbrev pub blank : ℕ → Bool
blank b = b == 32 || (b == 9 || (b == 10 || b == 13))

-- The bytes that a list begins with and that may stand in a name behind its first, as many as there are.
abbrev pub inner_run : List ℕ → List ℕ
inner_run bs = take (prefix_len inner bs) bs

-- The same from a place of a text on.
abbrev pub inner_part : ℕ → List ℕ → List ℕ
inner_part place text = inner_run (drop place text)
