-- The names that a list of names of the code holds.
use Rattle.sheet.specs.Naming.{NameList}
use Rattle.sheet.specs.declared.names.Names.{Names}

-- Each name by its bytes.
abbrev pub names_of : Names → NameList
names_of names = record { tests = names.tests; actions = names.actions }
