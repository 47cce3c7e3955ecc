-- Tests allow single situations alone, those in which they pass: so the laws of tests are those of yes and no.
use Rattle.std.proofs.Common.{◌≡◌, ℕ, Bool, true, false, ◌&&◌, ◌||◌, sym, refl, ap, ◌∙◌, subst, inl, inr}
use mathlib.Core.Bool.{and_comm, and_self, and-not_self, or-not_self, or-and_distrib_left}
use Rattle.std.proofs.lemmas.Bool.{false≢true, and_parts, and_from}
use Rattle.runs.specs.Runs.{Run, joined}
use Rattle.kat.specs.Algebra.{Allowed}
use Rattle.kat.specs.Laws.{Holds, Same, TestLaws, Within}
use Rattle.kat.specs.Places.{passes}
use Rattle.kat.specs.Terms.{Term, act, chain, choice, is_test, skip, star, stop, test}
use Rattle.kat.specs.Terms as term
use Rattle.kat.proofs.Passing.{passes_is_allowed}

module _ (holds : Holds) where
  -- What a test allows is a single situation.
  below_skip : (e : Term) → is_test e ≡ true → Within holds e skip
  below_skip (test t) h run (s, is, yes') = (s, is)
  below_skip (act a p) h run l = absurd (false≢true h)
  below_skip skip h run l = l
  below_skip stop h run l = absurd l
  below_skip (term.not e) h run (s, is, none) = (s, is)
  below_skip (choice e f) h run (inl l) = below_skip e (and_parts (is_test e) (is_test f) h).0 run l
  below_skip (choice e f) h run (inr l) = below_skip f (and_parts (is_test e) (is_test f) h).1 run l
  below_skip (chain e f) h run (x, y, p, q, meet, whole) =
      let both = and_parts (is_test e) (is_test f) h in
      let first = below_skip e both.0 x p in
      let second = below_skip f both.1 y q in
      (second.0, whole ∙ ap (λ (z : Run). joined z y) first.1 ∙ second.1)
  below_skip (star e) h run l = absurd (false≢true h)

  -- A test that passes only where another term does allows no run that this does not.
  within_tests : (e f : Term) → is_test e ≡ true → ((s : ℕ) → passes holds e s ≡ true → passes holds f s ≡ true) → Within holds e f
  within_tests e f h more run l =
      let one = below_skip e h run l in
      let passed = (passes_is_allowed holds e one.0).1 (subst (Allowed holds e) one.1 l) in
      subst (Allowed holds f) (sym one.1) ((passes_is_allowed holds f one.0).0 (more one.0 passed))

  -- Tests that pass in the same situations allow the same runs.
  same_tests : (e f : Term) → is_test e ≡ true → is_test f ≡ true → ((s : ℕ) → passes holds e s ≡ passes holds f s) → Same holds e f
  same_tests e f h k same = (within_tests e f h (λ s p. sym (same s) ∙ p), within_tests f e k (λ s p. same s ∙ p))

  -- What a yes or no absorbs.
  and_absorbs : (x y : Bool) → (x && (x || y)) ≡ x
  and_absorbs true y = refl
  and_absorbs false y = refl

  -- And the other way round.
  or_absorbs : (x y : Bool) → (x || (x && y)) ≡ x
  or_absorbs true y = refl
  or_absorbs false y = refl

  -- The laws of tests, each from the law of yes and no.
  pub test_laws : TestLaws holds
  test_laws = record {
    below_skip = below_skip;
    chain_commutative = λ e f a b. same_tests (chain e f) (chain f e) (and_from _ _ a b) (and_from _ _ b a) (λ s. and_comm (passes holds e s) (passes holds f s));
    chain_idempotent = λ e a. same_tests (chain e e) e (and_from _ _ a a) a (λ s. and_self (passes holds e s));
    absorbs_choice = λ e f a b.
        same_tests (chain e (choice e f)) e (and_from _ _ a (and_from _ _ a b)) a (λ s. and_absorbs (passes holds e s) (passes holds f s));
    absorbs_chain = λ e f a b.
        same_tests (choice e (chain e f)) e (and_from _ _ a (and_from _ _ a b)) a (λ s. or_absorbs (passes holds e s) (passes holds f s));
    choice_distributes = λ e f g a b c.
        same_tests (choice e (chain f g)) (chain (choice e f) (choice e g))
        (and_from _ _ a (and_from _ _ b c)) (and_from _ _ (and_from _ _ a b) (and_from _ _ a c))
        (λ s. or-and_distrib_left (passes holds e s) (passes holds f s) (passes holds g s));
    nothing_shared = λ e a. same_tests (chain e (term.not e)) stop (and_from _ _ a a) refl (λ s. and-not_self (passes holds e s));
    nothing_left = λ e a. same_tests (choice e (term.not e)) skip (and_from _ _ a a) refl (λ s. or-not_self (passes holds e s));
  }
