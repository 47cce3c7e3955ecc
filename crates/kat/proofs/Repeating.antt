-- The laws of repetition: it unfolds at both ends, and is the least that does.
use Rattle.std.proofs.Common.{ℕ, zero, suc, inl, inr}
use Rattle.runs.specs.Runs.{Run}
use Rattle.kat.specs.Algebra.{Allowed, Joined, Power}
use Rattle.kat.specs.Laws.{Holds, StarLaws, Within}
use Rattle.kat.specs.Terms.{Term, chain, choice, skip, star}
use Rattle.kat.proofs.Joining.{joined_left, joined_map, joined_right, one_more_first, one_more_last, single_first, single_last}

module _ (holds : Holds) where
  -- No runs of what is repeated, or one and then more.
  star_first : (e : Term) → Within holds (star e) (choice skip (chain e (star e)))
  star_first e run (zero, h) = inl h
  star_first e run (suc n, (x, y, p, q, meet, whole)) = inr (x, y, p, (n, q), meet, whole)

  -- And back.
  first_star : (e : Term) → Within holds (choice skip (chain e (star e))) (star e)
  first_star e run (inl h) = (0, h)
  first_star e run (inr (x, y, p, (n, q), meet, whole)) = (suc n, (x, y, p, q, meet, whole))

  -- The one can also be the last.
  star_last : (e : Term) → Within holds (star e) (choice skip (chain (star e) e))
  star_last e run (zero, h) = inl h
  star_last e run (suc n, h) =
      inr (joined_map (Power (Allowed holds e) n) (Allowed holds (star e)) (Allowed holds e) (Allowed holds e) (λ x p. (n, p)) (λ x p. p) run
      (one_more_last (Allowed holds e) n run h))

  -- And back.
  last_star : (e : Term) → Within holds (choice skip (chain (star e) e)) (star e)
  last_star e run (inl h) = (0, h)
  last_star e run (inr (x, y, (n, p), q, meet, whole)) = (suc n, one_more_first (Allowed holds e) n run (x, y, p, q, meet, whole))

  -- What holds f, and each e before itself, holds so many of e before f.
  power_first : (e f g : Term) → Within holds (choice f (chain e g)) g
      → (n : ℕ) (run : Run) → Joined (Power (Allowed holds e) n) (Allowed holds f) run → Allowed holds g run
  power_first e f g more zero run h = more run (inl (single_first (Allowed holds f) run h))
  power_first e f g more (suc n) run h =
      let E = Allowed holds e in
      let F = Allowed holds f in
      more run (inr (joined_map E E (Joined (Power E n) F) (Allowed holds g) (λ x p. p) (power_first e f g more n) run
      (joined_right E (Power E n) F run h)))

  -- What holds each e behind itself holds so many of e behind itself.
  power_last : (e f g : Term) → Within holds (choice f (chain g e)) g
      → (n : ℕ) (run : Run) → Joined (Allowed holds g) (Power (Allowed holds e) n) run → Allowed holds g run
  power_last e f g more zero run h = single_last (Allowed holds g) run h
  power_last e f g more (suc n) run h =
      let E = Allowed holds e in
      let G = Allowed holds g in
      power_last e f g more n run (joined_map (Joined G E) G (Power E n) (Power E n) (λ x p. more x (inr p)) (λ x p. p) run
      (joined_left G E (Power E n) run h))

  -- The laws of repetition.
  pub star_laws : StarLaws holds
  star_laws = record {
    unfolds_first = λ e. (star_first e, first_star e);
    unfolds_last = λ e. (star_last e, last_star e);
    least_first = λ e f g more run h. power_first e f g more h.2.0 run (h.0, h.1, h.2.1, h.3, h.4, h.5);
    least_last = λ e f g more run h. power_last e f g more h.3.0 run (h.0, h.1, more h.0 (inl h.2), h.3.1, h.4, h.5);
  }
