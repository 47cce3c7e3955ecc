-- The heads of a term: the places with which it begins in a situation. They are those that `begins` tells, and a run that
-- begins with a move is allowed exactly when a head of the move's action allows the rest.
use Rattle.std.proofs.Common.{◌≡◌, ℕ, zero, suc, true, ◌&&◌, List, [], ◌∷◌, ◌++◌, map, sym, refl, ap, ◌∙◌, subst, inl, inr, ⊎_elim}
use mathlib.Core.List.{head-eq_of_cons-eq, tail-eq_of_cons-eq}
use Rattle.std.proofs.lemmas.Bool.{false≢true, and_parts, and_from, or_cases, or_left, or_right, eqb-true, eq-eqb}
use Rattle.runs.specs.Runs.{Move, Run, single}
use Rattle.kat.specs.Algebra.{Allowed, Joined, Power}
use Rattle.kat.specs.Laws.{Holds}
use Rattle.kat.specs.Places.{Place, and_then, begins, passes}
use Rattle.kat.specs.Terms.{Term, act, chain, choice, skip, star, stop, test}
use Rattle.kat.specs.Terms as term
use Rattle.kat.proofs.Among.{Among, among_left, among_right, among_either, among_map, map_among, keep, among_keep, keep_among}
use Rattle.kat.proofs.Joining.{behind, Behind, run_of, first_move, move_first, situation_first}
use Rattle.kat.proofs.Passing.{NoMoves, passes_is_allowed}

module _ (holds : Holds) where
  -- The places with which a term begins in a situation.
  abbrev pub heads : Term → ℕ → List Place
  heads (test t) s = []
  heads (act a p) s = record { number = p; action = a; remainder = skip } ∷ []
  heads skip s = []
  heads stop s = []
  heads (term.not e) s = []
  heads (choice e f) s = heads e s ++ heads f s
  heads (chain e f) s = map (and_then f) (heads e s) ++ keep (passes holds e s) (heads f s)
  heads (star e) s = map (and_then (star e)) (heads e s)

  -- A number that a term begins with is that of a head.
  pub begun_head : (e : Term) (s q : ℕ) → begins holds e s q ≡ true → (h : Place) × Among h (heads e s) × (h.number ≡ q)
  begun_head (test t) s q h = absurd (false≢true h)
  begun_head (act a p) s q h = (record { number = p; action = a; remainder = skip }, inl refl, eqb-true p q h)
  begun_head skip s q h = absurd (false≢true h)
  begun_head stop s q h = absurd (false≢true h)
  begun_head (term.not e) s q h = absurd (false≢true h)
  begun_head (choice e f) s q h =
      ⊎_elim
      (λ a. let r = begun_head e s q a in (r.0, among_left r.0 (heads e s) _ r.1, r.2))
      (λ a. let r = begun_head f s q a in (r.0, among_right r.0 (heads e s) _ r.1, r.2))
      (or_cases (begins holds e s q) (begins holds f s q) h)
  begun_head (chain e f) s q h =
      ⊎_elim
      (λ a.
      let r = begun_head e s q a in
      (and_then f r.0, among_left (and_then f r.0) _ _ (among_map (and_then f) r.0 (heads e s) r.1), r.2))
      (λ a.
      let both = and_parts (passes holds e s) (begins holds f s q) a in
      let r = begun_head f s q both.1 in
      (r.0, among_right r.0 (map (and_then f) (heads e s)) _ (among_keep (passes holds e s) r.0 (heads f s) both.0 r.1), r.2))
      (or_cases (begins holds e s q) (passes holds e s && begins holds f s q) h)
  begun_head (star e) s q h =
      let r = begun_head e s q h in (and_then (star e) r.0, among_map (and_then (star e)) r.0 (heads e s) r.1, r.2)

  -- A term begins with the number of each head.
  pub head_begun : (e : Term) (s : ℕ) (h : Place) → Among h (heads e s) → begins holds e s h.number ≡ true
  head_begun (test t) s h i = absurd i
  head_begun (act a p) s h (inl e) = eq-eqb p h.number (ap (λ (x : Place). x.number) (sym e))
  head_begun (act a p) s h (inr i) = absurd i
  head_begun skip s h i = absurd i
  head_begun stop s h i = absurd i
  head_begun (term.not e) s h i = absurd i
  head_begun (choice e f) s h i =
      ⊎_elim (λ a. or_left _ _ (head_begun e s h a)) (λ a. or_right _ _ (head_begun f s h a)) (among_either h (heads e s) (heads f s) i)
  head_begun (chain e f) s h i =
      ⊎_elim
      (λ a.
      let r = map_among (and_then f) h (heads e s) a in
      let same : r.0.number ≡ h.number = ap (λ (x : Place). x.number) (sym r.2) in
      or_left _ _ (subst (λ q. begins holds e s q ≡ true) same (head_begun e s r.0 r.1)))
      (λ a.
      let r = keep_among (passes holds e s) h (heads f s) a in
      or_right _ _ (and_from _ _ r.0 (head_begun f s h r.1)))
      (among_either h (map (and_then f) (heads e s)) _ i)
  head_begun (star e) s h i =
      let r = map_among (and_then (star e)) h (heads e s) i in
      let same : r.0.number ≡ h.number = ap (λ (x : Place). x.number) (sym r.2) in
      subst (λ q. begins holds e s q ≡ true) same (head_begun e s r.0 r.1)

  -- A head of a term that does the action of a move, and whose remainder allows the run behind it.
  abbrev pub Found : Term → Move → Run → Type 0
  Found e m run = (h : Place) × Among h (heads e m.situation) × (h.action ≡ m.action) × Allowed holds h.remainder run

  -- Where each run of e that begins with the move has such a head, so has each of e and then f.
  found_chain : (e f : Term) (m : Move) (run : Run) → ((x : Run) → Allowed holds e (behind m x) → Found e m x)
      → (Allowed holds f (behind m run) → Found f m run) → Allowed holds (chain e f) (behind m run) → Found (chain e f) m run
  found_chain e f m run first second l =
      ⊎_elim
      (λ (a : Allowed holds e (single m.situation) × Allowed holds f (behind m run)).
      let r = second a.1 in
      let passed = (passes_is_allowed holds e m.situation).1 a.0 in (
        r.0,
        among_right r.0 (map (and_then f) (heads e m.situation)) _ (among_keep (passes holds e m.situation) r.0 _ passed r.1),
        r.2,
        r.3,
      ))
      (λ (a : Joined (Behind m (Allowed holds e)) (Allowed holds f) run).
      let r = first a.0 a.2 in (
        and_then f r.0,
        among_left (and_then f r.0) _ (keep (passes holds e m.situation) (heads f m.situation))
            (among_map (and_then f) r.0 (heads e m.situation) r.1),
        r.2,
        (a.0, a.1, r.3, a.3, a.4, a.5),
      ))
      (first_move (Allowed holds e) (Allowed holds f) m run l)

  -- The same for a repetition: the move stands in its first run that has moves.
  found_power : (e : Term) (m : Move) (run : Run) → ((x : Run) → Allowed holds e (behind m x) → Found e m x)
      → (n : ℕ) → Power (Allowed holds e) n (behind m run) → Found (star e) m run
  found_power e m run first zero l = absurd (subst (λ (x : Run). NoMoves x.moves) (sym l.1) tt)
  found_power e m run first (suc n) l =
      ⊎_elim
      (λ (a : Allowed holds e (single m.situation) × Power (Allowed holds e) n (behind m run)). found_power e m run first n a.1)
      (λ (a : Joined (Behind m (Allowed holds e)) (Power (Allowed holds e) n) run).
      let r = first a.0 a.2 in (
        and_then (star e) r.0,
        among_map (and_then (star e)) r.0 (heads e m.situation) r.1,
        r.2,
        (a.0, a.1, r.3, (n, a.3), a.4, a.5),
      ))
      (first_move (Allowed holds e) (Power (Allowed holds e) n) m run l)

  -- A run that begins with a move is allowed by a head.
  pub allowed_found : (e : Term) (m : Move) (run : Run) → Allowed holds e (behind m run) → Found e m run
  allowed_found (test t) m run (s, is, h) = absurd (subst (λ (x : Run). NoMoves x.moves) (sym is) tt)
  allowed_found (act a p) m run (s, t, is) =
      let moves = ap (λ (x : Run). x.moves) is in
      let none : run.moves ≡ [] = tail-eq_of_cons-eq moves in
      let does : m.action ≡ a = ap (λ (x : Move). x.action) (head-eq_of_cons-eq moves) in
      let ends : run.last ≡ t = ap (λ (x : Run). x.last) is in
      (record { number = p; action = a; remainder = skip }, inl refl, sym does, (t, λ i. run_of (none i) (ends i)))
  allowed_found skip m run (s, is) = absurd (subst (λ (x : Run). NoMoves x.moves) (sym is) tt)
  allowed_found stop m run l = absurd l
  allowed_found (term.not e) m run (s, is, h) = absurd (subst (λ (x : Run). NoMoves x.moves) (sym is) tt)
  allowed_found (choice e f) m run (inl l) =
      let r = allowed_found e m run l in (r.0, among_left r.0 (heads e m.situation) _ r.1, r.2, r.3)
  allowed_found (choice e f) m run (inr l) =
      let r = allowed_found f m run l in (r.0, among_right r.0 (heads e m.situation) _ r.1, r.2, r.3)
  allowed_found (chain e f) m run l = found_chain e f m run (λ x. allowed_found e m x) (allowed_found f m run) l
  allowed_found (star e) m run (n, l) = found_power e m run (λ x. allowed_found e m x) n l

  -- And what a head allows is allowed behind its move.
  pub found_allowed : (e : Term) (m : Move) (h : Place) → Among h (heads e m.situation) → h.action ≡ m.action
      → (run : Run) → Allowed holds h.remainder run → Allowed holds e (behind m run)
  found_allowed (test t) m h i does run l = absurd i
  found_allowed (act a p) m h (inl e) does run l =
      let only = subst (λ (x : Place). Allowed holds x.remainder run) e l in
      let same : m.action ≡ a = sym does ∙ ap (λ (x : Place). x.action) e in
      (m.situation, only.0, λ i. record { moves = record { situation = m.situation; action = same i } ∷ (only.1 i).moves; last = (only.1 i).last })
  found_allowed (act a p) m h (inr i) does run l = absurd i
  found_allowed skip m h i does run l = absurd i
  found_allowed stop m h i does run l = absurd i
  found_allowed (term.not e) m h i does run l = absurd i
  found_allowed (choice e f) m h i does run l =
      ⊎_elim (λ a. inl (found_allowed e m h a does run l)) (λ a. inr (found_allowed f m h a does run l)) (among_either h (heads e m.situation) _ i)
  found_allowed (chain e f) m h i does run l =
      ⊎_elim
      (λ a.
      let r = map_among (and_then f) h (heads e m.situation) a in
      let does' = sym (ap (λ (y : Place). y.action) r.2) ∙ does in
      let c = subst (λ (y : Place). Allowed holds y.remainder run) r.2 l in
      move_first (Allowed holds e) (Allowed holds f) m run
      (c.0, c.1, found_allowed e m r.0 r.1 does' c.0 c.2, c.3, c.4, c.5))
      (λ a.
      let r = keep_among (passes holds e m.situation) h (heads f m.situation) a in
      situation_first (Allowed holds e) (Allowed holds f) m run
      ((passes_is_allowed holds e m.situation).0 r.0) (found_allowed f m h r.1 does run l))
      (among_either h (map (and_then f) (heads e m.situation)) _ i)
  found_allowed (star e) m h i does run l =
      let r = map_among (and_then (star e)) h (heads e m.situation) i in
      let does' = sym (ap (λ (y : Place). y.action) r.2) ∙ does in
      let c = subst (λ (y : Place). Allowed holds y.remainder run) r.2 l in
      let n = c.3.0 in (
        suc n,
        move_first (Allowed holds e) (Power (Allowed holds e) n) m run
            (c.0, c.1, found_allowed e m r.0 r.1 does' c.0 c.2, c.3.1, c.4, c.5),
      )
