-- What the answers of judge and check say of runs: from the theorems on the walk.
use Rattle.std.proofs.Common.{◌≡◌, ℕ, ◌≤◌, Bool, true, false, cond, ltb, List, [], ◌∷◌, ◌++◌, map, length, take, drop, Ok, Err, Result, sym, refl, ap, ◌∙◌, subst, arith}
use Rattle.std.proofs.lemmas.List.{length-map, length-replicate, take_at}
use Rattle.std.proofs.lemmas.Bool.{cond-false, cond-true, le-ltb, ltb-false}
use Rattle.runs.proofs.Closed.{passing_shows_same_runs}
use Rattle.runs.proofs.Different.{different_shows_a_shortest_run}
use Rattle.runs.proofs.Equal.{equal_means_same_runs}
use Rattle.runs.proofs.Found.{a_list_convinces, same_runs_are_found}
use Rattle.runs.proofs.Full.{full_means_more_pairs}
use Rattle.runs.proofs.Written.{written_is_read_back, written_length}
use Rattle.runs.specs.Checks as checks
use Rattle.runs.specs.Flows.{FlowMeaning, Lawful, allows}
use Rattle.runs.specs.Pairs.{Pair}
use Rattle.runs.specs.Runs.{Run, actions_of, run_of}
use Rattle.runs.specs.Tracing.{written}
use Rattle.runs.specs.Walks.{Ending, Listed, different, equal, full, list_after}
use Rattle.walk.specs.Checked.{checked, told}
use Rattle.walk.specs.Judged.{alike, answer_of, buffer_after, buffer_by, bytes_of, judged, run_at, side_of, table_after, table_by, walk_of}
use Rattle.walk.specs.Promises.{AListConvinces, DifferentSays, EqualSays, FullSays, IfDifferent, IfEqual, IfFull, Says, flow_at, other_flow}
use Rattle.walk.specs.Records.{pair_of, record_of, table_of, zero_table}
use Rattle.walk.specs.declared.fault.WalkFault.{WalkFault}
use Rattle.walk.specs.declared.fault.WalkFault.TheVariants.{BufferTooShort, TableTooLarge, Unlike}
use Rattle.walk.specs.declared.record.PairRecord.{PairRecord}
use Rattle.walk.specs.declared.verdict.Finding.{Finding}
use Rattle.walk.specs.declared.verdict.Finding.TheVariants.{Passes}
use Rattle.walk.specs.declared.verdict.Side.{Side}
use Rattle.walk.specs.declared.verdict.Side.TheVariants.{Left, Right}
use Rattle.walk.specs.declared.verdict.Verdict.{Verdict}
use Rattle.walk.specs.declared.verdict.Verdict.TheVariants.{Different}
use Rattle.walk.proofs.Alike.{alike_situations}

-- The pairs of what the walk listed, read off its records.
listed_pairs : (list : List Listed) → map (λ (entry : PairRecord). pair_of entry.pair) (map record_of list) ≡ map (λ (entry : Listed). entry.pair) list
listed_pairs [] = refl
listed_pairs (entry ∷ list) = ap (λ (pairs : List Pair). entry.pair ∷ pairs) (listed_pairs list)

-- The first records of the table are those of the list.
first_records : (size count : ℕ) (list : List Listed) → length list ≡ count → take count (table_of size list) ≡ map record_of list
first_records size count list long = take_at (map record_of list) _ count (length-map list record_of ∙ long)

-- A list within the limit for which the finding is that it passes, passes the check.
passes_checked : (f g : FlowMeaning) (list : List Pair) → alike f g ≡ true → length list ≤ 2048 → checks.finding f.situations f.actions f g list ≡ checks.passes
    → checked f g list ≡ Ok Passes
passes_checked f g list like few is =
    cond-false (ltb 2048 (length list)) _ _ (le-ltb 2048 (length list) few)
    ∙ cond-true (alike f g) _ _ like ∙ ap (λ (found : checks.Finding). Ok (told found)) is

-- Equal.
equal_says : (f g : FlowMeaning) (room count : ℕ) → ltb 2048 room ≡ false → alike f g ≡ true → walk_of f g room ≡ equal count
    → EqualSays f g (table_of room (list_after f.situations f.actions f g count)) count
equal_says f g room count small like is =
    let says = equal_means_same_runs f.situations f.actions room count f g is in
    let list = list_after f.situations f.actions f g count in
    let pairs : map (λ (entry : PairRecord). pair_of entry.pair) (take count (table_of room list)) ≡ map (λ (entry : Listed). entry.pair) list =
    ap (map (λ (entry : PairRecord). pair_of entry.pair)) (first_records room count list says.counted) ∙ listed_pairs list in
    let few = ltb-false 2048 room small in
    record {
      same_runs = says.same_runs;
      list_passes = ap (checked f g) pairs ∙ passes_checked f g _ like (rw (length-map list (λ (entry : Listed). entry.pair)) (omega (arith, says.counted, says.in_the_room))) says.list_passes;
    }

-- The side that is named allows the run, and the other does not.
side_says : (f g : FlowMeaning) (buffer : List ℕ) (run : Run) (b c : Bool) → allows f run ≡ b → allows g run ≡ c → (b ≡ c → ⊥)
    → (allows (flow_at f g (cond b Left Right)) run ≡ true) × (allows (other_flow f g (cond b Left Right)) run ≡ false)
side_says f g buffer run true true hf hg apart = absurd (apart refl)
side_says f g buffer run true false hf hg apart = (hf, hg)
side_says f g buffer run false true hf hg apart = (hg, hf)
side_says f g buffer run false false hf hg apart = absurd (apart refl)

-- Different.
different_says : (f g : FlowMeaning) → Lawful f → Lawful g → (room i : ℕ) (buffer : List ℕ) → alike f g ≡ true → walk_of f g room ≡ different i
    → DifferentSays f g (written (run_at f g i) ++ drop (bytes_of (actions_of (run_at f g i))) buffer) (actions_of (run_at f g i)) (side_of f (run_at f g i))
different_says f g lf lg room i buffer like is =
    let run = run_at f g i in
    let shows = different_shows_a_shortest_run room i f g lf lg (alike_situations f g like) is in
    let front : take (bytes_of (actions_of run)) (written run ++ drop (bytes_of (actions_of run)) buffer) ≡ written run =
    take_at (written run) _ (bytes_of (actions_of run)) (written_length run) in
    let sides = side_says f g buffer run (allows f run) (allows g run) refl refl shows.parts in
    record {
      run = run;
      read_back = ap run_of front ∙ written_is_read_back run;
      as_many_actions = refl;
      in_range = shows.within;
      allowed_there = sides.0;
      not_on_the_other = sides.1;
      none_shorter = shows.shortest;
      lowest_last = shows.lowest;
    }

-- Full.
full_says : (f g : FlowMeaning) (room : ℕ) → walk_of f g room ≡ full → FullSays f g room
full_says f g room is =
    let says = full_means_more_pairs f.situations f.actions room f g is in
    record { pairs = says.0; apart = says.1; meeting = says.2; more = says.3 }

-- Where a run is shown, unless the buffer is too short for it.
shown_says : (f g : FlowMeaning) (table : List PairRecord) (buffer : List ℕ) (n : ℕ) (side : Side) (bytes : List ℕ) (wanted : ℕ) (short : Bool) → DifferentSays f g bytes n side
    → Says f g table (cond short buffer bytes) (cond short (Err (BufferTooShort wanted)) (Ok (Different n side)))
shown_says f g table buffer n side bytes wanted true says = tt
shown_says f g table buffer n side bytes wanted false says = says

-- Every answer, by the tests that lead to it.
says_by : (f g : FlowMeaning) → Lawful f → Lawful g → (table : List PairRecord) (buffer : List ℕ) (large like : Bool) (ending : Ending)
    → ltb 2048 (length table) ≡ large → alike f g ≡ like → walk_of f g (length table) ≡ ending
    → Says f g (cond large table (cond like (table_by f g (length table) ending) (zero_table (length table)))) (cond large buffer (cond like (buffer_by f g buffer ending) buffer))
    (cond large (Err TableTooLarge) (cond like (answer_of f g (length buffer) ending) (Err Unlike)))
says_by f g lf lg table buffer true like ending small alike' is = tt
says_by f g lf lg table buffer false false ending small alike' is = tt
says_by f g lf lg table buffer false true (equal count) small alike' is = equal_says f g (length table) count small alike' is
says_by f g lf lg table buffer false true (different i) small alike' is =
    shown_says f g (zero_table (length table)) buffer (actions_of (run_at f g i)) (side_of f (run_at f g i)) _ _ (ltb (length buffer) (bytes_of (actions_of (run_at f g i))))
    (different_says f g lf lg (length table) i buffer alike' is)
says_by f g lf lg table buffer false true full small alike' is = subst (FullSays f g) (sym (length-replicate (length table) _)) (full_says f g (length table) is)

-- What judge answers says so of runs: for each answer apart.
pub record Promised (f g : FlowMeaning) (table : List PairRecord) (buffer : List ℕ) (r : Result Verdict WalkFault) : Type 0 where
  pub if_equal : IfEqual f g table r
  pub if_different : IfDifferent f g buffer r
  pub if_full : IfFull f g (length table) r

pub judged_says : (f g : FlowMeaning) → Lawful f → Lawful g → (table after : List PairRecord) (buffer written' : List ℕ) (r : Result Verdict WalkFault)
    → r ≡ judged f g (length table) (length buffer) → after ≡ table_after f g table → written' ≡ buffer_after f g (length table) buffer → Promised f g after written' r
judged_says f g lf lg table after buffer written' r answer tables buffers =
    let says : Says f g after written' r =
    subst (Says f g after written') (sym answer) (subst (λ t. Says f g t written' (judged f g (length table) (length buffer))) (sym tables)
    (subst (λ b. Says f g (table_after f g table) b (judged f g (length table) (length buffer))) (sym buffers)
    (says_by f g lf lg table buffer (ltb 2048 (length table)) (alike f g) (walk_of f g (length table)) refl refl refl))) in
    record {
      if_equal = λ count is. subst (Says f g after written') is says;
      if_different = λ n side is. subst (Says f g after written') is says;
      if_full = λ is. subst (Says f g after written') is says;
    }

-- Only a list for which the finding is that it passes, passes the check.
passed_by : (found : checks.Finding) (large like : Bool) → ◌≡◌ {A = Result Finding WalkFault} (cond large (Err TableTooLarge) (cond like (Ok (told found)) (Err Unlike))) (Ok Passes)
    → found ≡ checks.passes
passed_by found true like e = cc
passed_by found false false e = cc
passed_by checks.passes false true e = refl
passed_by checks.start_missing false true e = cc
passed_by (checks.masks_fail i) false true e = cc
passed_by (checks.step_fails i) false true e = cc

-- A list convinces exactly when runs agree.
pub list_convinces : (f g : FlowMeaning) → Lawful f → Lawful g → AListConvinces f g
list_convinces f g lf lg = record {
  list_for_same_runs = λ like few same.
      let list = (a_list_convinces f.situations f.actions 2048 f g few lf lg refl (sym (alike_situations f g like))).0 same in
      (list.0, passes_checked f g list.0 like list.1 list.2);
  same_runs_for_list = λ list passes.
      passing_shows_same_runs f.situations f.actions f g list
      (passed_by (checks.finding f.situations f.actions f g list) (ltb 2048 (length list)) (alike f g) passes);
  found_equal = λ like few same buffer.
      let found = same_runs_are_found f.situations f.actions 2048 f g same few lf lg refl (sym (alike_situations f g like)) in
      (found.0, cond-true (alike f g) _ _ like ∙ ap (answer_of f g buffer) found.1);
}
