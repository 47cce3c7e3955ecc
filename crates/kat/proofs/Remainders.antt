-- What a term begins with are places of it, and so is what the remainder of a place begins with.
use Rattle.std.proofs.Common.{ℕ, map, sym, subst, inl, inr, ⊎_elim}
use Rattle.kat.specs.Laws.{Holds}
use Rattle.kat.specs.Places.{Place, and_then, passes, places_in}
use Rattle.kat.specs.Terms.{Term, act, chain, choice, skip, star, stop, test}
use Rattle.kat.specs.Terms as term
use Rattle.kat.proofs.Among.{Among, among_left, among_right, among_either, among_map, map_among, keep_among}
use Rattle.kat.proofs.Heads.{heads}

module _ (holds : Holds) where
  -- Each head of a term is one of its places.
  pub heads_places : (e : Term) (s : ℕ) (h : Place) → Among h (heads holds e s) → Among h (places_in e)
  heads_places (test t) s h i = i
  heads_places (act a p) s h i = i
  heads_places skip s h i = i
  heads_places stop s h i = i
  heads_places (term.not e) s h i = i
  heads_places (choice e f) s h i =
      ⊎_elim
      (λ x. among_left h (places_in e) _ (heads_places e s h x))
      (λ x. among_right h (places_in e) _ (heads_places f s h x))
      (among_either h (heads holds e s) (heads holds f s) i)
  heads_places (chain e f) s h i =
      ⊎_elim
      (λ x.
      let r = map_among (and_then f) h (heads holds e s) x in
      let there = among_map (and_then f) r.0 (places_in e) (heads_places e s r.0 r.1) in
      among_left h (map (and_then f) (places_in e)) _ (subst (λ y. Among y (map (and_then f) (places_in e))) (sym r.2) there))
      (λ x. among_right h (map (and_then f) (places_in e)) _ (heads_places f s h (keep_among (passes holds e s) h (heads holds f s) x).1))
      (among_either h (map (and_then f) (heads holds e s)) _ i)
  heads_places (star e) s h i =
      let r = map_among (and_then (star e)) h (heads holds e s) i in
      let there = among_map (and_then (star e)) r.0 (places_in e) (heads_places e s r.0 r.1) in
      subst (λ y. Among y (map (and_then (star e)) (places_in e))) (sym r.2) there

  -- Each head of the remainder of a place is one of the term's places.
  pub remainder_places : (e : Term) (x : Place) → Among x (places_in e)
      → (s : ℕ) (h : Place) → Among h (heads holds x.remainder s) → Among h (places_in e)
  remainder_places (test t) x i s h j = absurd i
  remainder_places (act a p) x (inl q) s h j = absurd (subst (λ (y : Place). Among h (heads holds y.remainder s)) q j)
  remainder_places (act a p) x (inr q) s h j = absurd q
  remainder_places skip x i s h j = absurd i
  remainder_places stop x i s h j = absurd i
  remainder_places (term.not e) x i s h j = absurd i
  remainder_places (choice e f) x i s h j =
      ⊎_elim
      (λ y. among_left h (places_in e) _ (remainder_places e x y s h j))
      (λ y. among_right h (places_in e) _ (remainder_places f x y s h j))
      (among_either x (places_in e) (places_in f) i)
  remainder_places (chain e f) x i s h j =
      ⊎_elim
      (λ y.
      let r = map_among (and_then f) x (places_in e) y in
      let j' = subst (λ (z : Place). Among h (heads holds z.remainder s)) r.2 j in
      ⊎_elim
      (λ z.
      let q = map_among (and_then f) h (heads holds r.0.remainder s) z in
      let there = among_map (and_then f) q.0 (places_in e) (remainder_places e r.0 r.1 s q.0 q.1) in
      among_left h (map (and_then f) (places_in e)) _ (subst (λ v. Among v (map (and_then f) (places_in e))) (sym q.2) there))
      (λ z.
      let kept = keep_among (passes holds r.0.remainder s) h (heads holds f s) z in
      among_right h (map (and_then f) (places_in e)) _ (heads_places f s h kept.1))
      (among_either h (map (and_then f) (heads holds r.0.remainder s)) _ j'))
      (λ y. among_right h (map (and_then f) (places_in e)) _ (remainder_places f x y s h j))
      (among_either x (map (and_then f) (places_in e)) (places_in f) i)
  remainder_places (star e) x i s h j =
      let r = map_among (and_then (star e)) x (places_in e) i in
      let j' = subst (λ (z : Place). Among h (heads holds z.remainder s)) r.2 j in
      ⊎_elim
      (λ z.
      let q = map_among (and_then (star e)) h (heads holds r.0.remainder s) z in
      let there = among_map (and_then (star e)) q.0 (places_in e) (remainder_places e r.0 r.1 s q.0 q.1) in
      subst (λ v. Among v (map (and_then (star e)) (places_in e))) (sym q.2) there)
      (λ z.
      let kept = keep_among (passes holds r.0.remainder s) h (heads holds (star e) s) z in
      heads_places (star e) s h kept.1)
      (among_either h (map (and_then (star e)) (heads holds r.0.remainder s)) _ j')
