-- The laws of Kleene algebra with tests, as laws on the runs that terms allow.
use Rattle.std.specs.Prelude.{◌≡◌, ℕ, Bool, true}
use Rattle.runs.specs.Runs.{Run, first_of, joined}
use Rattle.kat.specs.Algebra.{Allowed}
use Rattle.kat.specs.Terms.{Term, chain, choice, is_test, skip, star, stop}
use Rattle.kat.specs.Terms as term

-- Where tests hold is any table of answers.
abbrev pub Holds : Type 0
Holds = ℕ → ℕ → Bool

-- Each run that e allows is allowed by f.
abbrev pub Within : Holds → Term → Term → Type 0
Within holds e f = (run : Run) → Allowed holds e run → Allowed holds f run

-- The two terms allow the same runs.
abbrev pub Same : Holds → Term → Term → Type 0
Same holds e f = Within holds e f × Within holds f e

-- Choice is associative, commutative and idempotent, and `stop` adds nothing to it.
pub record ChoiceLaws (holds : Holds) : Type 0 where
  pub associative : (e f g : Term) → Same holds (choice e (choice f g)) (choice (choice e f) g)
  pub commutative : (e f : Term) → Same holds (choice e f) (choice f e)
  pub idempotent : (e : Term) → Same holds (choice e e) e
  pub unit : (e : Term) → Same holds (choice e stop) e
  pub least : (e f g : Term) → Within holds e g → Within holds f g → Within holds (choice e f) g

-- Chain is associative, `skip` changes nothing on either side, `stop` stops on either side, and chain distributes over choice
-- on both sides.
pub record ChainLaws (holds : Holds) : Type 0 where
  pub associative : (e f g : Term) → Same holds (chain e (chain f g)) (chain (chain e f) g)
  pub skip_first : (e : Term) → Same holds (chain skip e) e
  pub skip_last : (e : Term) → Same holds (chain e skip) e
  pub stop_first : (e : Term) → Same holds (chain stop e) stop
  pub stop_last : (e : Term) → Same holds (chain e stop) stop
  pub distributes_first : (e f g : Term) → Same holds (chain e (choice f g)) (choice (chain e f) (chain e g))
  pub distributes_last : (e f g : Term) → Same holds (chain (choice e f) g) (choice (chain e g) (chain f g))

-- A repetition unfolds on both sides, and is the least that does: whatever holds f, and with g also e before (or behind) g,
-- holds the repetition of e before (or behind) f.
pub record StarLaws (holds : Holds) : Type 0 where
  pub unfolds_first : (e : Term) → Same holds (star e) (choice skip (chain e (star e)))
  pub unfolds_last : (e : Term) → Same holds (star e) (choice skip (chain (star e) e))
  pub least_first : (e f g : Term) → Within holds (choice f (chain e g)) g → Within holds (chain (star e) f) g
  pub least_last : (e f g : Term) → Within holds (choice f (chain g e)) g → Within holds (chain f (star e)) g

-- The tests are a Boolean algebra: choice is their union and chain their intersection, `skip` the greatest and `stop` the
-- least, each distributes over the other, and a test and its negation share nothing and leave nothing out.
pub record TestLaws (holds : Holds) : Type 0 where
  pub below_skip : (e : Term) → is_test e ≡ true → Within holds e skip
  pub chain_commutative : (e f : Term) → is_test e ≡ true → is_test f ≡ true → Same holds (chain e f) (chain f e)
  pub chain_idempotent : (e : Term) → is_test e ≡ true → Same holds (chain e e) e
  pub absorbs_choice : (e f : Term) → is_test e ≡ true → is_test f ≡ true → Same holds (chain e (choice e f)) e
  pub absorbs_chain : (e f : Term) → is_test e ≡ true → is_test f ≡ true → Same holds (choice e (chain e f)) e
  pub choice_distributes : (e f g : Term) → is_test e ≡ true → is_test f ≡ true → is_test g ≡ true
      → Same holds (choice e (chain f g)) (chain (choice e f) (choice e g))
  pub nothing_shared : (e : Term) → is_test e ≡ true → Same holds (chain e (term.not e)) stop
  pub nothing_left : (e : Term) → is_test e ≡ true → Same holds (choice e (term.not e)) skip

-- A run of a chain splits at one situation: the last of a run of the first part, and the first of a run of the second.
abbrev pub ChainSplits : Holds → Type 0
ChainSplits holds = (e f : Term) (run : Run) → Allowed holds (chain e f) run
    → (x y : Run) × Allowed holds e x × Allowed holds f y × (x.last ≡ first_of y) × (run ≡ joined x y)
