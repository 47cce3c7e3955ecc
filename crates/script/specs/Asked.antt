-- What a line asks for, with a name as its bytes and the parts of a vocabulary as a list.
use Rattle.std.specs.Prelude.{ℕ, cond, List, [], ◌∷◌, Some, None, vec_items, Option}
use Rattle.std.specs.Option.{option_map}
use Rattle.words.specs.Words.{past_word, text_behind, words_of}
use Rattle.script.specs.Lines.{is_comment, keyword_of, only_word, parts_of}
use Rattle.script.specs.declared.command.Command.{Command}
use Rattle.script.specs.declared.command.Command as command
use Rattle.script.specs.declared.command.Line.{Line}
use Rattle.script.specs.declared.command.Line as line
use Rattle.script.specs.declared.command.Part.{Part}
use Rattle.script.specs.declared.keyword.Keyword.{Keyword}
use Rattle.script.specs.declared.keyword.Keyword.TheVariants.{Vocabulary, Test, Action, Open, Read}

-- A call: a vocabulary of these parts, a name for a test or for an action, the opening of the book, or a rule's text to read.
pub data Call : Type 0 where
  vocabulary : List Part → Call
  test : List ℕ → Call
  action : List ℕ → Call
  opening : Call
  reading : List ℕ → Call

-- A line: passed over, a call, or not understood.
pub data Asked : Type 0 where
  nothing : Asked
  call : Call → Asked
  unknown : Asked

-- A call of the code.
abbrev pub call_of : Command → Call
call_of (command.TheVariants.Vocabulary parts) = vocabulary (vec_items parts)
call_of (command.TheVariants.Test name) = test name.now
call_of (command.TheVariants.Action name) = action name.now
call_of command.TheVariants.Open = opening
call_of (command.TheVariants.Read text) = reading text.now

-- A line of the code.
abbrev pub line_of : Line → Asked
line_of line.TheVariants.PassedOver = nothing
line_of (line.TheVariants.Call made) = call (call_of made)
line_of line.TheVariants.NotUnderstood = unknown

-- A vocabulary has at least one part.
abbrev pub some_parts : Option (List Part) → Option Call
some_parts None = None
some_parts (Some []) = None
some_parts (Some (part ∷ parts)) = Some (vocabulary (part ∷ parts))

-- Opening takes no word.
abbrev pub no_words : List (List ℕ) → Option Call
no_words [] = Some opening
no_words (word ∷ words) = None

-- The call that a first word asks for, of the bytes behind it.
abbrev pub call_from : Keyword → List ℕ → Option Call
call_from Vocabulary rest = some_parts (parts_of (words_of rest))
call_from Test rest = option_map test (only_word (words_of rest))
call_from Action rest = option_map action (only_word (words_of rest))
call_from Open rest = no_words (words_of rest)
call_from Read rest = option_map reading (text_behind rest)

-- A call that there is, is asked for; else the line is not understood.
abbrev pub asks : Option Call → Asked
asks None = unknown
asks (Some made) = call made

-- What a line asks for that begins with this keyword, if it is one.
abbrev pub asked_from : Option Keyword → List ℕ → Asked
asked_from None rest = unknown
asked_from (Some keyword) rest = asks (call_from keyword rest)

-- What a line asks for, by its words and the bytes behind the first of them.
abbrev pub asked_by : List (List ℕ) → List ℕ → Asked
asked_by [] rest = nothing
asked_by (first ∷ words) rest = cond (is_comment first) nothing (asked_from (keyword_of first) rest)

-- What a line asks for.
abbrev pub asked : List ℕ → Asked
asked line = asked_by (words_of line) (past_word line)
