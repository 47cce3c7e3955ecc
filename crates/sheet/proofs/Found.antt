-- A name that was free is found under its number once it is added, and every earlier one still is. Serves the two calls
-- that add a name.
use Rattle.std.proofs.Common.{◌≡◌, ℕ, ◌<◌, ◌≤◌, true, false, List, [], ◌∷◌, ◌++◌, length, get_or, Some, None, Option, sym, refl, ap, ◌∙◌, subst, ⊎_elim, arith, length-append}
use Rattle.std.specs.Option.{option_map}
use Rattle.std.specs.Str.{bytes_eq}
use Rattle.std.proofs.lemmas.Slice.Eq.{bytes_eq-Decides}
use Rattle.std.proofs.lemmas.List.{get_or_append_left, get_or_push}
use Rattle.std.proofs.lemmas.Bool.{cases_Bool, cases_lt, cond-true, cond-false, eq-eqb, eqb-true, false≢true, both_ways}
use Rattle.keys.proofs.Firsts.{first_behind, first_kept, first_none}
use Rattle.sheet.specs.Naming.{EachActionFound, EachTestFound, FoundUnderItsNumber, NameList, found, is_action, is_test, number_in, or_else, with_action, with_test}
use Rattle.sheet.specs.declared.named.Named.{Named}
use Rattle.sheet.specs.declared.named.Named.TheVariants.{Test, Action}

-- what two searches give together
abbrev both : Option ℕ → Option ℕ → Option Named
both r s = or_else (option_map Test r) (option_map Action s)

test_parts : (r s : Option ℕ) (t : ℕ) → is_test t (both r s) ≡ true → r ≡ Some t
test_parts None None t h = absurd (false≢true h)
test_parts None (Some a) t h = absurd (false≢true h)
test_parts (Some k) s t h = ap Some (sym (eqb-true t k h))

action_parts : (r s : Option ℕ) (a : ℕ) → is_action a (both r s) ≡ true → (r ≡ None) × (s ≡ Some a)
action_parts None None a h = absurd (false≢true h)
action_parts None (Some k) a h = (refl, ap Some (sym (eqb-true a k h)))
action_parts (Some k) s a h = absurd (false≢true h)

none_parts : (r s : Option ℕ) → both r s ≡ None → (r ≡ None) × (s ≡ None)
none_parts None None h = (refl, refl)
none_parts None (Some a) h = let z : ◌≡◌ {A = ℕ} 0 1 = cc in absurd (omega arith)
none_parts (Some k) s h = let z : ◌≡◌ {A = ℕ} 0 1 = cc in absurd (omega arith)

test_is : (t : ℕ) (r : Option Named) → is_test t r ≡ true → r ≡ Some (Test t)
test_is t None h = absurd (false≢true h)
test_is t (Some (Test k)) h = ap (λ n. Some (Test n)) (sym (eqb-true t k h))
test_is t (Some (Action k)) h = absurd (false≢true h)

action_is : (a : ℕ) (r : Option Named) → is_action a r ≡ true → r ≡ Some (Action a)
action_is a None h = absurd (false≢true h)
action_is a (Some (Test k)) h = absurd (false≢true h)
action_is a (Some (Action k)) h = ap (λ n. Some (Action n)) (sym (eqb-true a k h))

-- what names keep as facts of their type, in plain words
pub found_under_number : (names : NameList) → EachTestFound names → EachActionFound names → FoundUnderItsNumber names
found_under_number names tests actions = record {
  of_test = λ t lt. test_is t (found names (get_or names.tests t [])) (tests t lt);
  of_action = λ a lt. action_is a (found names (get_or names.actions a [])) (actions a lt);
}

test_from : (r s : Option ℕ) (t : ℕ) → r ≡ Some t → is_test t (both r s) ≡ true
test_from r s t e = subst (λ r'. is_test t (both r' s) ≡ true) (sym e) (eq-eqb t t refl)

action_from : (r s : Option ℕ) (a : ℕ) → r ≡ None → s ≡ Some a → is_action a (both r s) ≡ true
action_from r s a e f = subst (λ r'. is_action a (both r' s) ≡ true) (sym e) (subst (λ s'. is_action a (both None s') ≡ true) (sym f) (eq-eqb a a refl))

same_self : (x : List ℕ) → bytes_eq x x ≡ true
same_self x = (bytes_eq-Decides x x).1 refl

-- what is not the same one way is not the same the other way
not_same : (x y : List ℕ) → bytes_eq x y ≡ false → bytes_eq y x ≡ false
not_same x y h =
    ⊎_elim (λ e. absurd (both_ways (bytes_eq x y) h ((bytes_eq-Decides x y).1 (sym ((bytes_eq-Decides y x).0 e))))) (λ e. e) (cases_Bool (bytes_eq y x))

-- a free name is found behind the others once it is added
found_behind : (names : List (List ℕ)) (x : List ℕ) → number_in names x ≡ None → number_in (names ++ x ∷ []) x ≡ Some (length names)
found_behind names x h = first_behind (λ other. bytes_eq other x) names x h ∙ cond-true _ _ _ (same_self x)

-- in a list that grew by one: what holds of the earlier places, and of the last, holds of each
grown : (names : List (List ℕ)) (x : List ℕ) (P : ℕ → List ℕ → Type 0) → ((i : ℕ) → i < length names → P i (get_or names i [])) → P (length names) x → (i : ℕ) → i < length (names ++ x ∷ []) → P i (get_or (names ++ x ∷ []) i [])
grown names x P earlier last i lt =
    ⊎_elim
    (λ (before : i < length names). subst (P i) (sym (get_or_append_left names (x ∷ []) [] i before)) (earlier i before))
    (λ (past : length names ≤ i).
    let at : length names ≡ i = omega (arith, length-append names (x ∷ [])) in
    subst (P i) (sym (get_or_push names x [] i at)) (subst (λ n. P n x) at last))
    (cases_lt i (length names))

-- a free name added to the tests
pub test_added : (names : NameList) (x : List ℕ) → found names x ≡ None → EachTestFound names → EachActionFound names → EachTestFound (with_test names x) × EachActionFound (with_test names x)
test_added names x free tests actions =
    let parts = none_parts (number_in names.tests x) (number_in names.actions x) free in (
      grown names.tests x (λ t name. is_test t (found (with_test names x) name) ≡ true)
          (λ t lt. let name = get_or names.tests t [] in
          test_from _ _ t (first_kept (λ other. bytes_eq other name) names.tests (x ∷ []) t (test_parts _ _ t (tests t lt))))
          (test_from _ _ (length names.tests) (found_behind names.tests x parts.0)),
      λ a lt.
          let name = get_or names.actions a [] in
          let p = action_parts (number_in names.tests name) (number_in names.actions name) a (actions a lt) in
          let other = not_same name x (first_none (λ n. bytes_eq n x) names.actions a [] parts.1 lt) in
          action_from _ _ a (first_behind (λ n. bytes_eq n name) names.tests x p.0 ∙ cond-false _ _ _ other) p.1,
    )

-- a free name added to the actions
pub action_added : (names : NameList) (x : List ℕ) → found names x ≡ None → EachTestFound names → EachActionFound names → EachTestFound (with_action names x) × EachActionFound (with_action names x)
action_added names x free tests actions =
    let parts = none_parts (number_in names.tests x) (number_in names.actions x) free in (
      λ t lt.
          let name = get_or names.tests t [] in
          let r = number_in names.tests name in
          test_from r (number_in (names.actions ++ x ∷ []) name) t (test_parts r (number_in names.actions name) t (tests t lt)),
      grown names.actions x (λ a name. is_action a (found (with_action names x) name) ≡ true)
          (λ a lt.
          let name = get_or names.actions a [] in
          let p = action_parts (number_in names.tests name) (number_in names.actions name) a (actions a lt) in
          action_from _ _ a p.0 (first_kept (λ other. bytes_eq other name) names.actions (x ∷ []) a p.1))
          (action_from _ _ (length names.actions) parts.0 (found_behind names.actions x parts.1)),
    )
