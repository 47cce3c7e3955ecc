-- The terms that rules are: tests and actions, put together by choice, chain, repetition and negation.
use Rattle.std.specs.Prelude.{ℕ, ◌+◌, Bool, true, false, ◌&&◌}

pub data Term : Type 0 where
  -- the test with this number
  test : ℕ → Term
  -- the action with this number, at this place: the actions of a rule have the places 1, 2, .. in the order of the text
  act : ℕ → ℕ → Term
  skip : Term
  stop : Term
  not : Term → Term
  choice : Term → Term → Term
  chain : Term → Term → Term
  star : Term → Term

-- A test is a test's name, `skip`, `stop`, `!` of a test, or a choice or chain of tests. What is repeated is no test.
abbrev pub is_test : Term → Bool
is_test (test t) = true
is_test (act a p) = false
is_test skip = true
is_test stop = true
is_test (not e) = is_test e
is_test (choice e f) = is_test e && is_test f
is_test (chain e f) = is_test e && is_test f
is_test (star e) = false

-- How many signs other than brackets a term is written with.
abbrev pub size : Term → ℕ
size (test t) = 1
size (act a p) = 1
size skip = 1
size stop = 1
size (not e) = size e + 1
size (choice e f) = size e + size f + 1
size (chain e f) = size e + size f + 1
size (star e) = size e + 1
