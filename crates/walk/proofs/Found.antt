-- A pair is found among records, or among pairs, exactly where it is listed there.
use Rattle.std.proofs.Common.{◌≡◌, Bool, ◌||◌, List, [], ◌∷◌, map, is_some, refl, arith}
use Rattle.std.specs.List.{position}
use Rattle.std.proofs.lemmas.Bool.Decides.{nat_tests}
use Rattle.runs.specs.Pairs.{is_among, same_pair}
use Rattle.runs.specs.Walks.{has}
use Rattle.walk.specs.declared.pair.CodePair.{CodePair}
use Rattle.walk.specs.declared.record.PairRecord.{PairRecord}
use Rattle.walk.specs.Records.{listed_of, pair_of}

-- The first element passes, or a later one is found.
found_step : {X : Type 0} (test : X → Bool) (x : X) (xs : List X) → is_some (position test (x ∷ xs)) ≡ (test x || is_some (position test xs))
found_step test x xs = grind (arith, nat_tests)

-- Among records.
pub found_listed : (p : CodePair) (table : List PairRecord) → is_some (position (λ (entry : PairRecord). same_pair (pair_of entry.pair) (pair_of p)) table) ≡ has (pair_of p) (map listed_of table)
found_listed p [] = refl
found_listed p (entry ∷ table) = rw (found_step (λ (r : PairRecord). same_pair (pair_of r.pair) (pair_of p)) entry table, found_listed p table)

-- Among pairs.
pub found_among : (p : CodePair) (list : List CodePair) → is_some (position (λ q. same_pair (pair_of q) (pair_of p)) list) ≡ is_among (pair_of p) (map pair_of list)
found_among p [] = refl
found_among p (q ∷ list) = rw (found_step (λ r. same_pair (pair_of r) (pair_of p)) q list, found_among p list)
