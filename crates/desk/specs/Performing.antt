-- What each call does, by how far the script has come.
use Rattle.std.specs.Prelude.{◌≡◌, ℕ, cond, ◌&&◌, List, length, is_ok, Some, None, Ok, Err, Option, Result, nat_le}
use Rattle.std.specs.Option.{option_map}
use Rattle.std.specs.declared.alloc.AllocError.{AllocError}
use Rattle.book.specs.Books.{Holdings, book_of, opened, read_in}
use Rattle.grammar.specs.Faults as ruleFaults
use Rattle.grammar.specs.declared.fault.RuleFault.{RuleFault}
use Rattle.rules.specs.FaultySigns.{faulty_sign}
use Rattle.rules.specs.declared.rule.Rule.{Rule}
use Rattle.script.specs.Asked.{Call, action, opening, reading, test, vocabulary}
use Rattle.sheet.specs.Faults as nameFaults
use Rattle.sheet.specs.Laid.{LaidOut, begun, name_action_on, name_test_on, sheet_of, with_action_named, with_test_named}
use Rattle.sheet.specs.declared.fault.NameFault.{NameFault}
use Rattle.vocabulary.specs.Faults as vocabularyFaults
use Rattle.vocabulary.specs.Meaning.{VocabularyMeaning}
use Rattle.vocabulary.specs.declared.fault.VocabularyFault.{VocabularyFault}
use Rattle.desk.specs.Joining.{vocabulary_of}
use Rattle.desk.specs.Replies.{Said, has_read, made, number, opened_with, refused, refused_on, said_by}
use Rattle.desk.specs.declared.desk.Desk.{Desk}
use Rattle.desk.specs.declared.desk.Desk.TheVariants.{Empty, Laid, Opened}
use Rattle.desk.specs.declared.reply.Reply.{Reply}
use Rattle.desk.specs.declared.reply.Refused.{Refused}

-- Nothing, a sheet being laid out, or an opened book.
pub data Stage : Type 0 where
  bare : Stage
  laying : LaidOut → Stage
  open_book : Holdings → Stage

-- What a desk of the code holds.
abbrev pub desk_of : Desk → Stage
desk_of Empty = bare
desk_of (Laid sheet) = laying (sheet_of sheet)
desk_of (Opened book) = open_book (book_of book)

-- What a call is answered, and how things stand afterwards.
pub record Outcome : Type 0 where
  pub reply : Option Said
  pub after : Stage

-- A call at the wrong time has no reply, and changes nothing.
abbrev pub wrong_time : Stage → Outcome
wrong_time stage = record { reply = None; after = stage }

-- A vocabulary begins a sheet, unless it is refused.
abbrev pub beginning : Result VocabularyMeaning VocabularyFault → Outcome
beginning (Ok meaning) = record { reply = Some (made meaning.situations meaning.tests); after = laying (begun meaning) }
beginning (Err fault) = record { reply = Some (refused (vocabularyFaults.refusal_of fault)); after = bare }

-- A name is given its number, or is refused.
abbrev pub numbered : Result ℕ NameFault → Said
numbered (Ok k) = number k
numbered (Err fault) = refused (nameFaults.refusal_of fault)

-- On an empty desk only a vocabulary has its time.
abbrev pub performed_bare : Call → Outcome
performed_bare (vocabulary parts) = beginning (vocabulary_of parts)
performed_bare (test name) = wrong_time bare
performed_bare (action name) = wrong_time bare
performed_bare opening = wrong_time bare
performed_bare (reading text) = wrong_time bare

-- On a sheet names are given, and it is opened.
abbrev pub performed_laying : LaidOut → Call → Outcome
performed_laying sheet (vocabulary parts) = wrong_time (laying sheet)
performed_laying sheet (test name) = record {
  reply = Some (numbered (name_test_on sheet name));
  after = laying (cond (is_ok (name_test_on sheet name)) (with_test_named sheet name) sheet);
}
performed_laying sheet (action name) = record {
  reply = Some (numbered (name_action_on sheet name));
  after = laying (cond (is_ok (name_action_on sheet name)) (with_action_named sheet name) sheet);
}
performed_laying sheet opening = record {
  reply = Some (opened_with (length sheet.names.tests) (length sheet.names.actions));
  after = open_book (opened sheet);
}
performed_laying sheet (reading text) = wrong_time (laying sheet)

-- A rule's text that was read, or its refusal; the refusals 6 to 12 are for a sign.
abbrev pub read_said : List ℕ → Result Rule RuleFault → Said
read_said text (Ok rule) = has_read rule.nodes rule.actions
read_said text (Err fault) =
    cond (nat_le 6 (ruleFaults.refusal_of fault).number && nat_le (ruleFaults.refusal_of fault).number 12)
    (refused_on (ruleFaults.refusal_of fault) (faulty_sign text fault))
    (refused (ruleFaults.refusal_of fault))

-- With an open book rules are read.
abbrev pub performed_open : Holdings → Call → Outcome
performed_open book (vocabulary parts) = wrong_time (open_book book)
performed_open book (test name) = wrong_time (open_book book)
performed_open book (action name) = wrong_time (open_book book)
performed_open book opening = wrong_time (open_book book)
performed_open book (reading text) = record { reply = Some (read_said text (read_in book text)); after = open_book book }

-- What a call does.
abbrev pub performed : Stage → Call → Outcome
performed bare call = performed_bare call
performed (laying sheet) call = performed_laying sheet call
performed (open_book book) call = performed_open book call

-- A call was carried out as it should be, or found no memory and changed nothing.
abbrev pub Done : Stage → Call → Result (Option (Result Reply Refused)) AllocError → Stage → Type 0
Done before call (Ok answer) after = (option_map said_by answer ≡ (performed before call).reply) × (after ≡ (performed before call).after)
Done before call (Err none) after = after ≡ before
