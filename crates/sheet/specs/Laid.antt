-- What a sheet holds, and what naming on it does.
use Rattle.std.specs.Prelude.{ℕ, List, Result}
use Rattle.vocabulary.specs.Copies.{copied_meaning}
use Rattle.vocabulary.specs.Meaning.{VocabularyMeaning}
use Rattle.sheet.specs.Held.{names_of}
use Rattle.sheet.specs.Naming.{NameList, action_number, no_names, test_number, with_action, with_test}
use Rattle.sheet.specs.declared.fault.NameFault.{NameFault}
use Rattle.sheet.specs.declared.sheet.Sheet.{Sheet}

-- A sheet has the meaning of the vocabulary that it was begun from, and names.
pub record LaidOut : Type 0 where
  pub meaning : VocabularyMeaning
  pub names : NameList

-- What a sheet of the code holds.
abbrev pub sheet_of : Sheet → LaidOut
sheet_of sheet = record { meaning = copied_meaning sheet.vocabulary; names = names_of sheet.names }

-- A sheet as it is begun.
abbrev pub begun : VocabularyMeaning → LaidOut
begun meaning = record { meaning = meaning; names = no_names }

-- The answer to naming the next of the vocabulary's tests, or the next of 16 actions.
abbrev pub name_test_on : LaidOut → List ℕ → Result ℕ NameFault
name_test_on sheet name = test_number sheet.names sheet.meaning.tests name

abbrev pub name_action_on : LaidOut → List ℕ → Result ℕ NameFault
name_action_on sheet name = action_number sheet.names name

-- The sheet with one more name.
abbrev pub with_test_named : LaidOut → List ℕ → LaidOut
with_test_named sheet name = record { meaning = sheet.meaning; names = with_test sheet.names name }

abbrev pub with_action_named : LaidOut → List ℕ → LaidOut
with_action_named sheet name = record { meaning = sheet.meaning; names = with_action sheet.names name }
