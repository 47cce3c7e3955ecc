-- The names on a sheet as lists of bytes, what a name names, and what becomes of the names when one is added.
use Rattle.std.specs.Prelude.{◌≡◌, ℕ, ◌<◌, Bool, true, false, cond, List, [], ◌∷◌, ◌++◌, length, Some, None, Ok, Err, Option, Result, ◌==◌, nat_le, slice_index_or}
use Rattle.std.specs.Option.{option_map}
use Rattle.std.specs.Str.{bytes_eq}
use Rattle.std.specs.List.{position}
use Rattle.sheet.specs.Spelling.{name_from}
use Rattle.sheet.specs.declared.fault.NameFault.{NameFault}
use Rattle.sheet.specs.declared.fault.NameFault.TheVariants.{AlreadyNamed, AllNamed}
use Rattle.sheet.specs.declared.named.Named.{Named}
use Rattle.sheet.specs.declared.named.Named.TheVariants.{Test, Action}

-- The names of tests and of actions, each list in the order of the numbers and each name by its bytes.
pub record NameList : Type 0 where
  pub tests : List (List ℕ)
  pub actions : List (List ℕ)

-- A sheet begins with no names.
abbrev pub no_names : NameList
no_names = record { tests = []; actions = [] }

-- The first of two answers, if there is one.
abbrev pub or_else : {X : Type 0} → Option X → Option X → Option X
or_else None other = other
or_else (Some x) other = Some x

-- The number of a name in a list of names.
abbrev pub number_in : List (List ℕ) → List ℕ → Option ℕ
number_in names name = position (λ other. bytes_eq other name) names

-- What a name names: a test, or else an action, or nothing.
abbrev pub found : NameList → List ℕ → Option Named
found names name = or_else (option_map Test (number_in names.tests name)) (option_map Action (number_in names.actions name))

-- What bytes name: what is found under them if they are a name, and others nothing.
abbrev pub found_by : NameList → Result (List ℕ) NameFault → Option Named
found_by names (Ok name) = found names name
found_by names (Err fault) = None

abbrev pub meaning_of : NameList → List ℕ → Option Named
meaning_of names bytes = found_by names (name_from bytes)

-- Whether what was found is the test, or the action, with this number.
abbrev pub is_test : ℕ → Option Named → Bool
is_test t None = false
is_test t (Some (Test k)) = t == k
is_test t (Some (Action k)) = false

abbrev pub is_action : ℕ → Option Named → Bool
is_action a None = false
is_action a (Some (Test k)) = false
is_action a (Some (Action k)) = a == k

-- Each test is found by its name under its number, and each action: no two of them share a name.
abbrev pub EachTestFound : NameList → Type 0
EachTestFound names = (t : ℕ) → t < length names.tests → is_test t (found names (slice_index_or names.tests t [])) ≡ true

abbrev pub EachActionFound : NameList → Type 0
EachActionFound names = (a : ℕ) → a < length names.actions → is_action a (found names (slice_index_or names.actions a [])) ≡ true

-- The same of both, in plain words.
pub record FoundUnderItsNumber (names : NameList) : Type 0 where
  pub of_test : (t : ℕ) → t < length names.tests → found names (slice_index_or names.tests t []) ≡ Some (Test t)
  pub of_action : (a : ℕ) → a < length names.actions → found names (slice_index_or names.actions a []) ≡ Some (Action a)

-- A name that names something is taken, else it is free.
abbrev pub free_unless : Option Named → List ℕ → Result (List ℕ) NameFault
free_unless None name = Ok name
free_unless (Some named) name = Err AlreadyNamed

-- Bytes that are a name, and one that names nothing yet: the two checks that come first.
abbrev pub free : NameList → Result (List ℕ) NameFault → Result (List ℕ) NameFault
free names (Ok name) = free_unless (found names name) name
free names (Err fault) = Err fault

abbrev pub fresh : NameList → List ℕ → Result (List ℕ) NameFault
fresh names bytes = free names (name_from bytes)

-- The next number of a list, unless as many as there can be have their names: the check that comes last.
abbrev pub next_of : ℕ → List (List ℕ) → Result (List ℕ) NameFault → Result ℕ NameFault
next_of all names (Ok name) = cond (nat_le all (length names)) (Err AllNamed) (Ok (length names))
next_of all names (Err fault) = Err fault

-- The answer to naming a test, of as many as the vocabulary has.
abbrev pub test_number : NameList → ℕ → List ℕ → Result ℕ NameFault
test_number names all bytes = next_of all names.tests (fresh names bytes)

-- The answer to naming an action, of at most 16.
abbrev pub action_number : NameList → List ℕ → Result ℕ NameFault
action_number names bytes = next_of 16 names.actions (fresh names bytes)

-- The names with one more test.
abbrev pub with_test : NameList → List ℕ → NameList
with_test names name = record { tests = names.tests ++ (name ∷ []); actions = names.actions }

-- The names with one more action.
abbrev pub with_action : NameList → List ℕ → NameList
with_action names name = record { tests = names.tests; actions = names.actions ++ (name ∷ []) }
