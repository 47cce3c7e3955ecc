-- The pairs of a walk's list, without how they were met.
use Rattle.std.proofs.Common.{◌≡◌, ℕ, suc, ◌<◌, true, false, ◌||◌, List, [], ◌∷◌, map, length, sym, refl, ap, ◌∙◌, ⊎_elim, arith}
use lib.ListN.{length-map}
use Rattle.std.proofs.lemmas.Bool.{cases_Bool}
use Rattle.runs.specs.Flows.{FlowMeaning}
use Rattle.runs.specs.Pairs.{AllMeeting, Apart, Meeting, Pair, is_among, same_pair}
use Rattle.runs.specs.Walks.{Listed, at, has}
use Rattle.runs.proofs.Listing.{has_held}

-- The pairs, in the order of the list.
abbrev pub pairs_of : List Listed → List Pair
pairs_of list = map (λ (entry : Listed). entry.pair) list

-- They are as many.
pub pairs_length : (list : List Listed) → length (pairs_of list) ≡ length list
pairs_length list = length-map list (λ (entry : Listed). entry.pair)

-- A pair is among them exactly when it is listed.
pub among_has : (p : Pair) (list : List Listed) → is_among p (pairs_of list) ≡ has p list
among_has p [] = refl
among_has p (entry ∷ list) = ap (λ b. same_pair entry.pair p || b) (among_has p list)

-- Where no two numbers have the same pair, none stands twice.
pub pairs_apart : (list : List Listed) → ((j l : ℕ) → j < l → l < length list → at list j ≡ at list l → ⊥) → Apart (pairs_of list)
pairs_apart [] apart = tt
pairs_apart (entry ∷ list) apart = (
  ⊎_elim
      (λ (among : is_among entry.pair (pairs_of list) ≡ true).
      let held = has_held entry.pair list (sym (among_has entry.pair list) ∙ among) in
      absurd (apart 0 (suc held.0) (omega arith) (omega (arith, held.1)) (sym held.2)))
      (λ (none : is_among entry.pair (pairs_of list) ≡ false). none)
      (cases_Bool (is_among entry.pair (pairs_of list))),
  pairs_apart list (λ j l less lt e. apart (suc j) (suc l) (omega arith) (omega arith) e),
)

-- Where each number has a meeting pair, all are meeting pairs.
pub pairs_meeting : (n k : ℕ) (f g : FlowMeaning) (list : List Listed) → ((j : ℕ) → j < length list → Meeting n k f g (at list j)) → AllMeeting n k f g (pairs_of list)
pairs_meeting n k f g [] meeting = tt
pairs_meeting n k f g (entry ∷ list) meeting = (meeting 0 (omega arith), pairs_meeting n k f g list (λ j l. meeting (suc j) (omega arith)))
