-- The grammar of rules, as a relation between lists of signs and terms: which signs derive which term.
--
-- Each relation says: with at most `depth` levels of `(` and `!` open at a time, behind `before` actions, the signs derive
-- the term, and with its actions there are `after`.
use Rattle.std.specs.Prelude.{◌≡◌, ℕ, suc, ◌≤◌, true, List, [], ◌∷◌, ◌++◌, Some, Option}
use Rattle.sheet.specs.declared.named.Named.{Named}
use Rattle.sheet.specs.declared.named.Named.TheVariants.{Test, Action}
use Rattle.signs.specs.Signs.{Mark, named, skipping, stopping, opening, closing, negating, repeating, following, choosing}
use Rattle.kat.specs.Terms.{Term, act, chain, choice, is_test, not, skip, star, stop, test}

mutual
  -- A choice is chains joined by `|`.
  pub data Choice (means : List ℕ → Option Named) : ℕ → ℕ → List Mark → Term → ℕ → Type 0 where
    one_chain : {depth before after : ℕ} {signs : List Mark} {e : Term}
        → Chain means depth before signs e after → Choice means depth before signs e after
    more_chains : {depth before between after : ℕ} {xs ys : List Mark} {e f : Term} (place : ℕ)
        → Chain means depth before xs e between → Choice means depth between ys f after
        → Choice means depth before (xs ++ choosing place ∷ ys) (choice e f) after

  -- A chain is steps joined by `;`.
  pub data Chain (means : List ℕ → Option Named) : ℕ → ℕ → List Mark → Term → ℕ → Type 0 where
    one_step : {depth before after : ℕ} {signs : List Mark} {e : Term}
        → Step means depth before signs e after → Chain means depth before signs e after
    more_steps : {depth before between after : ℕ} {xs ys : List Mark} {e f : Term} (place : ℕ)
        → Step means depth before xs e between → Chain means depth between ys f after
        → Chain means depth before (xs ++ following place ∷ ys) (chain e f) after

  -- A step is a unit followed by any number of `*`.
  pub data Step (means : List ℕ → Option Named) : ℕ → ℕ → List Mark → Term → ℕ → Type 0 where
    unit : {depth before after : ℕ} {signs : List Mark} {e : Term}
        → Unit' means depth before signs e after → Step means depth before signs e after
    repeated : {depth before after : ℕ} {signs : List Mark} {e : Term} (place : ℕ)
        → Step means depth before signs e after → Step means depth before (signs ++ repeating place ∷ []) (star e) after

  -- A unit is a name, `skip`, `stop`, `!` before a unit that is a test, or a choice in brackets.
  pub data Unit' (means : List ℕ → Option Named) : ℕ → ℕ → List Mark → Term → ℕ → Type 0 where
    a_test : {depth before : ℕ} (name : List ℕ) (place t : ℕ)
        → means name ≡ Some (Test t) → Unit' means depth before (named name place ∷ []) (test t) before
    an_action : {depth before : ℕ} (name : List ℕ) (place a : ℕ)
        → means name ≡ Some (Action a) → Unit' means depth before (named name place ∷ []) (act a (suc before)) (suc before)
    the_skip : {depth before : ℕ} (place : ℕ) → Unit' means depth before (skipping place ∷ []) skip before
    the_stop : {depth before : ℕ} (place : ℕ) → Unit' means depth before (stopping place ∷ []) stop before
    negated : {depth before after : ℕ} {signs : List Mark} {e : Term} (place : ℕ)
        → Unit' means depth before signs e after → is_test e ≡ true
        → Unit' means (suc depth) before (negating place ∷ signs) (not e) after
    in_brackets : {depth before after : ℕ} {signs : List Mark} {e : Term} (open-place close-place : ℕ)
        → Choice means depth before signs e after
        → Unit' means (suc depth) before (opening open-place ∷ (signs ++ closing close-place ∷ [])) e after

-- How many of the signs are no brackets.
abbrev pub plain_signs : List Mark → ℕ
plain_signs [] = 0
plain_signs (named name place ∷ signs) = suc (plain_signs signs)
plain_signs (skipping place ∷ signs) = suc (plain_signs signs)
plain_signs (stopping place ∷ signs) = suc (plain_signs signs)
plain_signs (opening place ∷ signs) = plain_signs signs
plain_signs (closing place ∷ signs) = plain_signs signs
plain_signs (negating place ∷ signs) = suc (plain_signs signs)
plain_signs (repeating place ∷ signs) = suc (plain_signs signs)
plain_signs (following place ∷ signs) = suc (plain_signs signs)
plain_signs (choosing place ∷ signs) = suc (plain_signs signs)

-- The signs are a rule, this term: they derive it with at most 32 open levels, 63 actions and 255 signs other than brackets.
pub record Rule (means : List ℕ → Option Named) (signs : List Mark) (e : Term) : Type 0 where
  pub actions : ℕ
  pub derived : Choice means 32 0 signs e actions
  pub few_actions : actions ≤ 63
  pub few_signs : plain_signs signs ≤ 255
