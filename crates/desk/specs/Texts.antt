-- Answers as text.
use Rattle.std.specs.Prelude.{ℕ, List, ◌++◌, Some, None, codes, decimal, Option}
use Rattle.refusals.specs.Shown.{refusal_text}
use Rattle.script.specs.Asked.{Call, action, opening, reading, test, vocabulary}
use Rattle.desk.specs.Replies.{Said, has_read, made, number, opened_with, refused, refused_on}

-- The call as an answer begins with it: its word, and the name that it is about.
abbrev pub heading : Call → List ℕ
heading (vocabulary parts) = codes "vocabulary"
heading (test name) = codes "test " ++ name
heading (action name) = codes "action " ++ name
heading opening = codes "open"
heading (reading text) = codes "read"

-- What stands behind the call in an answer. The sign that a refusal is for stands between quotation marks.
abbrev pub reply_text : Said → List ℕ
reply_text (made situations tests) = decimal situations ++ (codes " situations, " ++ (decimal tests ++ codes " tests"))
reply_text (number k) = codes "number " ++ decimal k
reply_text (opened_with tests actions) = decimal tests ++ (codes " tests and " ++ (decimal actions ++ codes " actions named"))
reply_text (has_read nodes actions) = decimal nodes ++ (codes " nodes, " ++ (decimal actions ++ codes " actions"))
reply_text (refused refusal) = refusal_text refusal
reply_text (refused_on refusal faulty) = refusal_text refusal ++ (codes " on \"" ++ (faulty ++ codes "\""))

-- A line that is not understood goes by its number.
abbrev pub not_understood : ℕ → List ℕ
not_understood line = codes "line " ++ (decimal line ++ codes ": not understood\n")

-- The answer to the call of a line: a call with no reply came at the wrong time, and its line is not understood.
abbrev pub answer_text : ℕ → Call → Option Said → List ℕ
answer_text line call None = not_understood line
answer_text line call (Some answer) = heading call ++ (codes ": " ++ (reply_text answer ++ codes "\n"))
