-- The turns of the walk: what the table holds so far, and that the rest of the walk is the walk from there.
use Rattle.std.proofs.Common.{◌≡◌, ℕ, suc, ◌+◌, ◌-◌, ◌<◌, ◌≤◌, true, false, ltb, leb, List, [], ◌∷◌, Ok, Err, Result, ◌++◌, map, length, take, sym, refl, ap, ◌∙◌, subst, add-one, arith, take-append-drop}
use native.Mathlib.Nat.{sub-zero}
use Rattle.std.proofs.lemmas.Bool.{le-leb, le-ltb, lt-leb, lt-ltb}
use Rattle.std.proofs.lemmas.List.{length-map, length-take-le}
use Rattle.runs.specs.Flows.{FlowMeaning}
use Rattle.runs.specs.Pairs.{Pair, disagree_at}
use Rattle.runs.specs.Walks as walks
use Rattle.runs.specs.Walks.{Listed, at, followed, list_after, listed_start, moves_below, walk_from}
use Rattle.runs.proofs.Trees.{list_next}
use Rattle.walk.specs.Listings.{Grew, listed, room}
use Rattle.walk.specs.declared.ending.Ending.{Ending}
use Rattle.walk.specs.declared.ending.Ending.TheVariants.{Different, Equal}
use Rattle.walk.specs.declared.fault.WalkFault.{WalkFault}
use Rattle.walk.specs.declared.listing.Listing.{Listing}
use Rattle.walk.specs.declared.record.PairRecord.{PairRecord}
use Rattle.walk.specs.Ended.{Stands, Walked, ending_of}
use Rattle.walk.specs.Judged.{walk_of}
use Rattle.walk.specs.Records.{listed_of, record_of, table_of, zero_table}

-- Records of what records list are those records.
records_back : (table : List PairRecord) → map record_of (map listed_of table) ≡ table
records_back [] = refl
records_back (entry ∷ table) = ap (λ rest. entry ∷ rest) (records_back table)

-- As many records are used as pairs are listed.
long_listed : (listing : Listing) → length (listed listing) ≡ listing.used
long_listed listing = length-map (take listing.used listing.table.now) listed_of ∙ length-take-le listing.used listing.table.now listing.fit

-- A table is what its listing lists, with zeros behind.
pub lies : (listing : Listing) {size : ℕ} {list : List Listed} → room listing ≡ size → listed listing ≡ list → listing.table.now ≡ table_of size list
lies listing {size} {list} same is =
    let front = take listing.used listing.table.now in
    sym ((λ j. records_back front j ++ zero_table (room listing - long_listed listing j)) ∙ ap (λ rest. front ++ rest) (sym listing.blank) ∙ take-append-drop listing.used listing.table.now)
    ∙ (λ j. table_of (same j) (is j))

module _ (f g : FlowMeaning) (size : ℕ) where
  -- The list when the first i pairs have been followed.
  abbrev list : ℕ → List Listed
  list i = list_after f.situations f.actions f g i

  -- The walk from pair i on.
  abbrev on_from : ℕ → walks.Ending
  on_from i = walk_from f.situations f.actions f g size (suc size - i) i

  -- The first i pairs have been followed.
  pub record Going (listing : Listing) (i : ℕ) : Type 0 where
    pub same_room : room listing ≡ size
    pub reached : i ≤ listing.used
    pub lists : listed listing ≡ list i
    pub rest : on_from i ≡ walk_of f g size

  -- The start alone is listed.
  pub begin : {listing : Listing} → room listing ≡ size → listed listing ≡ listed_start f g ∷ [] → Going listing 0
  begin {listing} same is =
      let one : listing.used ≡ 1 = sym (long_listed listing) ∙ ap length is in
      let some : 0 < size = omega (arith, listing.fit) in
      record {
        same_room = same;
        reached = omega arith;
        lists = is;
        rest = ap (λ turns. walk_from f.situations f.actions f g size turns 0) (sub-zero (suc size))
            ∙ sym (ap (λ b. walks.turn true false b 0 (walk_from f.situations f.actions f g size (suc size) 0)) (lt-ltb 0 size some));
      }

  -- What the code ends with, by how the walk ends.
  ended : (ending : walks.Ending) (table : List PairRecord) → walk_of f g size ≡ ending → Stands f g size table ending → Walked f g size table (ending_of ending)
  ended ending table e holds = record { ends = ap ending_of (sym e); stands = subst (Stands f g size table) (sym e) holds }

  module _ {listing : Listing} {i : ℕ} (going : Going listing i) where
    long : length (list i) ≡ listing.used
    long = ap length (sym going.lists) ∙ long_listed listing

    -- The turn of pair i, as the walk has it.
    opened : walks.turn (ltb i (length (list i))) (disagree_at f g (at (list i) i)) (leb (length (list (suc i))) size) i (walk_from f.situations f.actions f g size (size - i) (suc i)) ≡ walk_of f g size
    opened =
        let k : suc size - i ≡ suc (size - i) = omega (arith, going.reached, going.same_room, listing.fit) in
        sym (ap (λ turns. walk_from f.situations f.actions f g size turns i) k) ∙ going.rest

    -- All pairs have been followed.
    pub equal : {table : List PairRecord} → listing.used ≤ i → table ≡ listing.table.now → Walked f g size table (Ok (Equal i))
    equal {table} done is =
        let e = opened in
        let t = le-ltb i (length (list i)) (omega (arith, long)) in
        ended (walks.equal i) table (grind arith) (is ∙ lies listing going.same_room going.lists)

    module _ (pair : Pair) (there : (i < listing.used) × (pair ≡ at (listed listing) i)) where
      there' : ltb i (length (list i)) ≡ true
      there' = lt-ltb i (length (list i)) (omega (arith, there.0, long))

      here : pair ≡ at (list i) i
      here = there.1 ∙ ap (λ xs. at xs i) going.lists

      -- The flows disagree at pair i.
      pub different : {table : List PairRecord} → true ≡ disagree_at f g pair → table ≡ listing.table.now → Walked f g size table (Ok (Different i))
      different {table} apart is =
          let e = opened in
          let t = there' in
          let d : disagree_at f g (at (list i) i) ≡ true = ap (disagree_at f g) (sym here) ∙ sym apart in
          ended (walks.different i) table (grind arith) (is ∙ lies listing going.same_room going.lists)

      module _ (agree : false ≡ disagree_at f g pair) where
        agreed : disagree_at f g (at (list i) i) ≡ false
        agreed = ap (disagree_at f g) (sym here) ∙ sym agree

        -- What following pair i lists.
        abbrev onward : List Listed
        onward = followed f g (listed listing) i pair (moves_below f.situations f.actions)

        next : onward ≡ list (suc i)
        next = λ j. followed f g (going.lists j) i (here j) (moves_below f.situations f.actions)

        -- It did not fit.
        pub no_room : {after : Listing} {fault : WalkFault} {table : List PairRecord} {r : Result Ending WalkFault} → Grew onward listing after (Err fault) → r ≡ Err fault → Walked f g size table r
        no_room {after} {fault} {table} {r} grew is =
            let e = opened in
            let t = there' in
            let d = agreed in
            let n = lt-leb (length (list (suc i))) size (omega (arith, grew.lists.1, ap length next, going.same_room)) in
            subst (Walked f g size table) (sym (is ∙ ap Err grew.lists.0)) (ended walks.full table (grind arith) tt)

        -- It did: pair i has been followed.
        pub goes_on : {after : Listing} → Grew onward listing after (Ok tt) → Going after (i + 1)
        goes_on {after} grew =
            let is : listed after ≡ list (suc i) = grew.lists ∙ next in
            let used : length (list (suc i)) ≡ after.used = ap length (sym is) ∙ long_listed after in
            let e = opened in
            let t = there' in
            let d = agreed in
            let n = le-leb (length (list (suc i))) size (omega (arith, used, after.fit, grew.same_room, going.same_room)) in
            let k : suc size - (i + 1) ≡ size - i = omega arith in
            let rest : walk_from f.situations f.actions f g size (size - i) (suc i) ≡ walk_of f g size = grind arith in
            record {
              same_room = grew.same_room ∙ going.same_room;
              reached = omega (arith, used, there.0, long, (list_next f.situations f.actions f g i).0);
              lists = is ∙ ap list (sym (add-one i));
              rest = (λ j. walk_from f.situations f.actions f g size (k j) (add-one i j)) ∙ rest;
            }
