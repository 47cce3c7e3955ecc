-- The laws of chain, from those of joined runs.
use Rattle.std.proofs.Common.{inl, inr}
use Rattle.kat.specs.Algebra.{Allowed}
use Rattle.kat.specs.Laws.{ChainLaws, Holds, Within}
use Rattle.kat.specs.Terms.{Term, chain, choice}
use Rattle.kat.proofs.Choosing.{choice_least}
use Rattle.kat.proofs.Joining.{joined_left, joined_map, joined_right, single_first, first_single, single_last, last_single}

module _ (holds : Holds) where
  -- A chain of larger parts is larger.
  chain_map : (e e' f f' : Term) → Within holds e e' → Within holds f f' → Within holds (chain e f) (chain e' f')
  chain_map e e' f f' = joined_map (Allowed holds e) (Allowed holds e') (Allowed holds f) (Allowed holds f')

  -- A choice behind a term is made in front of it as well.
  over_second : (e f g : Term) → Within holds (chain e (choice f g)) (choice (chain e f) (chain e g))
  over_second e f g run (x, y, p, inl q, meet, whole) = inl (x, y, p, q, meet, whole)
  over_second e f g run (x, y, p, inr q, meet, whole) = inr (x, y, p, q, meet, whole)

  -- A choice in front of a term is made for both.
  over_first : (e f g : Term) → Within holds (chain (choice e f) g) (choice (chain e g) (chain f g))
  over_first e f g run (x, y, inl p, q, meet, whole) = inl (x, y, p, q, meet, whole)
  over_first e f g run (x, y, inr p, q, meet, whole) = inr (x, y, p, q, meet, whole)

  -- The laws of chain: those of joined runs, and those with `stop` and choice.
  pub chain_laws : ChainLaws holds
  chain_laws = record {
    associative = λ e f g. (
      joined_left (Allowed holds e) (Allowed holds f) (Allowed holds g),
      joined_right (Allowed holds e) (Allowed holds f) (Allowed holds g),
    );
    skip_first = λ e. (single_first (Allowed holds e), first_single (Allowed holds e));
    skip_last = λ e. (single_last (Allowed holds e), last_single (Allowed holds e));
    stop_first = λ e. (λ run h. absurd h.2, λ run h. absurd h);
    stop_last = λ e. (λ run h. absurd h.3, λ run h. absurd h);
    distributes_first = λ e f g. (
      over_second e f g,
      choice_least holds (chain e f) (chain e g) (chain e (choice f g))
          (chain_map e e f (choice f g) (λ run h. h) (λ run h. inl h))
          (chain_map e e g (choice f g) (λ run h. h) (λ run h. inr h)),
    );
    distributes_last = λ e f g. (
      over_first e f g,
      choice_least holds (chain e g) (chain f g) (chain (choice e f) g)
          (chain_map e (choice e f) g g (λ run h. inl h) (λ run h. h))
          (chain_map f (choice e f) g g (λ run h. inr h) (λ run h. h)),
    );
  }
