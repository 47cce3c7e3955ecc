-- What the names on a sheet are after a name was given a number, or was not. Serves the two calls that add a name.
use Rattle.std.proofs.Common.{◌≡◌, ℕ, Bool, true, false, cond, List, [], ◌∷◌, ◌++◌, is_ok, Some, None, Ok, Err, Option, Result, sym, refl, subst, arith}
use Rattle.signs.specs.Names.{is_name}
use Rattle.sheet.specs.Naming.{EachActionFound, EachTestFound, NameList, found, free, free_unless, fresh}
use Rattle.sheet.specs.declared.fault.NameFault.{NameFault}
use Rattle.sheet.specs.declared.fault.NameFault.TheVariants.{NotAName}
use Rattle.sheet.specs.declared.named.Named.{Named}
use Rattle.sheet.proofs.Found.{action_added, test_added}

-- a name that passes is free, and is what was given
passed_free : (r : Option Named) (name bytes : List ℕ) → Ok name ≡ free_unless r bytes → (r ≡ None) × (name ≡ bytes)
passed_free None name bytes e = (refl, cc)
passed_free (Some named) name bytes e = let z : ◌≡◌ {A = ℕ} 0 1 = cc in absurd (omega arith)

passed_name : (names : NameList) (name bytes : List ℕ) (is : Bool) → Ok name ≡ free names (cond is (Ok bytes) (Err NotAName)) → (found names bytes ≡ None) × (name ≡ bytes)
passed_name names name bytes true e = passed_free (found names bytes) name bytes e
passed_name names name bytes false e = let z : ◌≡◌ {A = ℕ} 0 1 = cc in absurd (omega arith)

-- a name that passes the first two checks names nothing yet
fresh_is_free : (names : NameList) (name bytes : List ℕ) → Ok name ≡ fresh names bytes → found names name ≡ None
fresh_is_free names name bytes e =
    let passed = passed_name names name bytes (is_name bytes) e in
    subst (λ bs. found names bs ≡ None) (sym passed.1) passed.0

-- each test and each action is found under its number
abbrev EachFound : NameList → Type 0
EachFound names = EachTestFound names × EachActionFound names

module _ (names : NameList) (name bytes : List ℕ) where
  pub found_after_test : (r : Result ℕ NameFault) (after : List (List ℕ)) → Ok name ≡ fresh names bytes → after ≡ cond (is_ok r) (names.tests ++ name ∷ []) names.tests → EachTestFound names → EachActionFound names → EachFound (record { tests = after; actions = names.actions })
  found_after_test (Ok n) after passed is tests actions =
      subst (λ xs. EachFound (record { tests = xs; actions = names.actions })) (sym is) (test_added names name (fresh_is_free names name bytes passed) tests actions)
  found_after_test (Err fault) after passed is tests actions =
      subst (λ xs. EachFound (record { tests = xs; actions = names.actions })) (sym is) (tests, actions)

  pub found_after_action : (r : Result ℕ NameFault) (after : List (List ℕ)) → Ok name ≡ fresh names bytes → after ≡ cond (is_ok r) (names.actions ++ name ∷ []) names.actions → EachTestFound names → EachActionFound names → EachFound (record { tests = names.tests; actions = after })
  found_after_action (Ok n) after passed is tests actions =
      subst (λ xs. EachFound (record { tests = names.tests; actions = xs })) (sym is) (action_added names name (fresh_is_free names name bytes passed) tests actions)
  found_after_action (Err fault) after passed is tests actions =
      subst (λ xs. EachFound (record { tests = names.tests; actions = xs })) (sym is) (tests, actions)
