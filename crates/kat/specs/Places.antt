-- The places of a term and their remainders, and the flow whose codes are sets of places.
use Rattle.std.specs.Prelude.{◌≡◌, ℕ, zero, suc, ◌≤◌, Bool, true, false, cond, not, ◌&&◌, ◌||◌, List, [], ◌∷◌, ◌++◌, map, length, ◌==◌, nat_lt}
use Rattle.masks.specs.Bits.{bit, bits_below}
use Rattle.runs.specs.Flows.{FlowMeaning}
use Rattle.kat.specs.Terms.{Term, act, chain, choice, skip, star, stop, test}
use Rattle.kat.specs.Terms as term

-- Whether a term passes in a situation: whether it allows the run of that situation alone.
abbrev pub passes : (ℕ → ℕ → Bool) → Term → ℕ → Bool
passes holds (test t) s = holds t s
passes holds (act a p) s = false
passes holds skip s = true
passes holds stop s = false
passes holds (term.not e) s = not (passes holds e s)
passes holds (choice e f) s = passes holds e s || passes holds f s
passes holds (chain e f) s = passes holds e s && passes holds f s
passes holds (star e) s = true

-- A place of a term: an action's sign, by its number, with the action and with the remainder, which is what is left to do
-- behind it.
pub record Place : Type 0 where
  pub number : ℕ
  pub action : ℕ
  pub remainder : Term

-- The same place, with a term left to do behind its remainder.
abbrev pub and_then : Term → Place → Place
and_then f place = record { number = place.number; action = place.action; remainder = chain place.remainder f }

-- The places of a term in the order of its text. Behind an action nothing is left to do; within a choice what is left is that of the side
-- holding the place, within a chain that of the first part and then the second part, or that of the second part, and within
-- a repetition that of what is repeated and then the repetition.
abbrev pub places_in : Term → List Place
places_in (test t) = []
places_in (act a p) = record { number = p; action = a; remainder = skip } ∷ []
places_in skip = []
places_in stop = []
places_in (term.not e) = []
places_in (choice e f) = places_in e ++ places_in f
places_in (chain e f) = map (and_then f) (places_in e) ++ places_in f
places_in (star e) = map (and_then (star e)) (places_in e)

-- Some of the places is marked in a code, by the bit of its number, and its remainder is as asked.
abbrev pub some_marked : ℕ → (Term → Bool) → List Place → Bool
some_marked code asked [] = false
some_marked code asked (place ∷ places) = (bit place.number code && asked place.remainder) || some_marked code asked places

-- Of a term, some remainder that is marked in a code is as asked: place 0 is the start, and its remainder is the whole term.
abbrev pub some_remainder : Term → ℕ → (Term → Bool) → Bool
some_remainder e code asked = (bit 0 code && asked e) || some_marked code asked (places_in e)

-- Whether a term begins in a situation with the place of a number. An action begins with its place, a test with none, a choice with those of
-- both sides, a repetition with those of what is repeated, and a chain with those of its first part and, if that passes,
-- those of its second.
abbrev pub begins : (ℕ → ℕ → Bool) → Term → ℕ → ℕ → Bool
begins holds (test t) s q = false
begins holds (act a p) s q = p == q
begins holds skip s q = false
begins holds stop s q = false
begins holds (term.not e) s q = false
begins holds (choice e f) s q = begins holds e s q || begins holds f s q
begins holds (chain e f) s q = begins holds e s q || (passes holds e s && begins holds f s q)
begins holds (star e) s q = begins holds e s q

-- Whether a number is that of a place of the action.
abbrev pub is_place_of : ℕ → ℕ → List Place → Bool
is_place_of a q [] = false
is_place_of a q (place ∷ places) = (place.number == q && place.action == a) || is_place_of a q places

-- The situations, of n, that a code accepts: those in which some marked remainder passes.
abbrev pub accepted_at : (ℕ → ℕ → Bool) → Term → ℕ → ℕ → ℕ
accepted_at holds e n code = bits_below (λ s. some_remainder e code (λ f. passes holds f s)) n

-- The next code marks the places of the action with which some marked remainder begins in the situation. A code has 64 bits.
abbrev pub marked_next : (ℕ → ℕ → Bool) → Term → ℕ → ℕ → ℕ → ℕ
marked_next holds e code s a = bits_below (λ q. is_place_of a q (places_in e) && some_remainder e code (λ f. begins holds f s q)) 64

-- The flow of a term's places, over n situations and k actions: the start marks place 0, and a situation or an action
-- out of range gives the code back.
unfoldable pub place_flow : ℕ → ℕ → (ℕ → ℕ → Bool) → Term → FlowMeaning
place_flow n k holds e = record {
  situations = n;
  actions = k;
  start = 1;
  accept = accepted_at holds e n;
  next = λ code s a. cond (nat_lt s n && nat_lt a k) (marked_next holds e code s a) code;
}

-- The numbers from one on, so many of them.
abbrev pub count_from : ℕ → ℕ → List ℕ
count_from first zero = []
count_from first (suc n) = first ∷ count_from (suc first) n

-- The places of a term are numbered 1, 2, .. in the order of the text, and there are at most 63: so two signs of one action are two places.
pub record Numbered (e : Term) : Type 0 where
  pub in_text_order : map (λ place. place.number) (places_in e) ≡ count_from 1 (length (places_in e))
  pub few : length (places_in e) ≤ 63
