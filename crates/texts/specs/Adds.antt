-- Writing: a text is put behind what was there.
use Rattle.std.specs.Prelude.{◌≡◌, ℕ, List, ◌++◌}

-- What is there afterwards is what was there, with the text behind it.
pub record Adds (text was after : List ℕ) : Type 0 where
  pub is : after ≡ was ++ text
