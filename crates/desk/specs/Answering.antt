-- What a line of a script is answered.
use Rattle.std.specs.Prelude.{ℕ, Bool, true, false, List, [], is_some}
use Rattle.script.specs.Asked.{Asked, call, nothing, unknown}
use Rattle.desk.specs.Performing.{Stage, performed}
use Rattle.desk.specs.Texts.{answer_text, not_understood}

-- The text of the answer, whether the line was understood, and how things stand afterwards.
pub record Answered : Type 0 where
  pub text : List ℕ
  pub understood : Bool
  pub after : Stage

-- The answer to the line with this number.
abbrev pub answered : Stage → ℕ → Asked → Answered
answered stage number nothing = record { text = []; understood = true; after = stage }
answered stage number (call made) = record {
  text = answer_text number made (performed stage made).reply;
  understood = is_some (performed stage made).reply;
  after = (performed stage made).after;
}
answered stage number unknown = record { text = not_understood number; understood = false; after = stage }
