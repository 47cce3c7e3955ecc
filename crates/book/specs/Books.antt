-- What a book holds.
use Rattle.std.specs.Prelude.{ℕ, List, Option, Result}
use Rattle.grammar.specs.declared.fault.RuleFault.{RuleFault}
use Rattle.rules.specs.Rules.{read_text, rule_of}
use Rattle.rules.specs.declared.rule.Rule.{Rule}
use Rattle.sheet.specs.declared.named.Named.{Named}
use Rattle.sheet.specs.Naming.{found_by}
use Rattle.sheet.specs.Spelling.{name_from}
use Rattle.sheet.specs.Laid.{LaidOut, sheet_of}
use Rattle.book.specs.declared.Book.{Book}

-- A book has the sheet's meaning and names.
pub record Holdings : Type 0 where
  pub sheet : LaidOut

-- What a book of the code holds.
abbrev pub book_of : Book → Holdings
book_of book = record { sheet = sheet_of book.sheet }

-- A book as it is opened.
abbrev pub opened : LaidOut → Holdings
opened sheet = record { sheet = sheet }

-- What bytes name in a book: what its sheet found under them, if they are a name.
abbrev pub means_in : Holdings → List ℕ → Option Named
means_in book bytes = found_by book.sheet.names (name_from bytes)

-- A rule's text read by the names of a book, with nodes for the longest rule.
abbrev pub read_in : Holdings → List ℕ → Result Rule RuleFault
read_in book text = rule_of 255 (read_text (means_in book) text)
