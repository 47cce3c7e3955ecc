-- After any calls, group answers for the flows that stand by the calls, and its numbers are equal exactly where runs are the same.
use Rattle.std.proofs.Common.{◌≡◌, ℕ, suc, Bool, true, false, cond, ◌⊎◌, List, [], ◌∷◌, Some, None, Option, sym, refl, ap, ◌∙◌, subst, inl, inr, arith}
use Rattle.std.specs.Str.{bytes_eq}
use Rattle.sheet.specs.Laid.{LaidOut}
use Rattle.ledger.specs.Calls.{group_answer, in_group}
use Rattle.ledger.specs.Histories.{Standing, book_after, events_of, source_of, standing}
use Rattle.ledger.specs.Ledgers.{Filed, Ledger, first_marked, group_number, named, opened}
use Rattle.ledger.specs.Sources.{SameSourceRuns, Source}
use Rattle.ledger.specs.Theorems.{GroupsMeanRunsAlways}
use Rattle.ledger.proofs.Kept.{Kept, flows_of, none_sound, standings_of}
use Rattle.ledger.proofs.Marks.{first_has_mark}
use Rattle.ledger.proofs.Performed.{Keeps, keeps_after}
use Rattle.ledger.proofs.Positions.{At, at_made, at_one}

-- A name's flow in a book and its source by the calls: those of one kept flow, or none.
abbrev Looked : List Kept → Option Filed → Option Source → Type 0
Looked kept flow source = ((k : Kept) × (i : ℕ) × At kept i k × (flow ≡ Some k.flow) × (source ≡ Some k.source)) ⊎ ((flow ≡ None) × (source ≡ None))

-- The first kept flow has the name, or a later one.
looked_behind : (k : Kept) (kept : List Kept) (its : Bool) (flow : Option Filed) (source : Option Source) → Looked kept flow source
    → Looked (k ∷ kept) (cond its (Some k.flow) flow) (cond its (Some k.source) source)
looked_behind k kept true flow source later = inl (k, 0, refl, refl, refl)
looked_behind k kept false flow source (inl (l, i, p, a, b)) = inl (l, suc i, p, a, b)
looked_behind k kept false flow source (inr none) = inr none

-- Looked up among the kept flows, a name has both or none.
look_up : (kept : List Kept) (name : List ℕ) → Looked kept (named (flows_of kept) name) (source_of (standings_of kept) name)
look_up [] name = inr (refl, refl)
look_up (k ∷ kept) name =
    looked_behind k kept (bytes_eq k.flow.name name) (named (flows_of kept) name) (source_of (standings_of kept) name) (look_up kept name)

-- Flows with one first flow of their marks have one mark, since that flow has both.
one_first_one_mark : (filed : List Filed) (i j : ℕ) (f g : Filed) → At filed i f → At filed j g → first_marked filed f.mark ≡ first_marked filed g.mark
    → f.mark ≡ g.mark
one_first_one_mark filed i j f g p q first =
    let x = first_has_mark filed i f f.mark p refl in
    let y = first_has_mark filed j g g.mark q refl in
    let same : x.0 ≡ y.0 = at_one filed (first_marked filed g.mark) x.0 y.0 (subst (λ m. At filed m x.0) first x.1) y.1 in
    sym x.2 ∙ ap (λ (h : Filed). h.mark) same ∙ y.2

module _ (laid : LaidOut) (ledger : Ledger) (stands : List Standing) (keeps : Keeps laid ledger stands) where
  -- The flows in the book are the kept ones.
  filed_is : flows_of keeps.kept ≡ ledger.filed
  filed_is = ap (λ (l : Ledger). l.filed) (sym keeps.in_the_book)

  -- A name has a flow in the book and a source by the calls, or neither.
  looked : (name : List ℕ) → Looked keeps.kept (named ledger.filed name) (source_of stands name)
  looked name =
      subst (λ (at : List Filed × List Standing). Looked keeps.kept (named at.0 name) (source_of at.1 name))
      (λ i. (filed_is i, sym keeps.by_the_calls i)) (look_up keeps.kept name)

  -- The kept flow of a name that stands.
  record Known (name : List ℕ) (from : Source) : Type 0 where
    flow_kept : Kept
    position : ℕ
    stands_there : At keeps.kept position flow_kept
    is_named : named ledger.filed name ≡ Some flow_kept.flow
    is_from : flow_kept.source ≡ from

  -- Each name that stands has one.
  known : (name : List ℕ) (from : Source) → source_of stands name ≡ Some from → Known name from
  known name from is = go (looked name) where
    go : Looked keeps.kept (named ledger.filed name) (source_of stands name) → Known name from
    go (inl (k, i, p, a, b)) =
        let same : k.source ≡ from = cc in
        record { flow_kept = k; position = i; stands_there = p; is_named = a; is_from = same }
    go (inr (a, b)) = let never : ◌≡◌ {A = ℕ} 0 1 = cc in absurd (omega arith)

  -- A name that does not stand has no flow in the book.
  unknown : (name : List ℕ) → source_of stands name ≡ None → named ledger.filed name ≡ None
  unknown name is = go (looked name) where
    go : Looked keeps.kept (named ledger.filed name) (source_of stands name) → named ledger.filed name ≡ None
    go (inl (k, i, p, a, b)) = let never : ◌≡◌ {A = ℕ} 0 1 = cc in absurd (omega arith)
    go (inr (a, b)) = a

  -- The number that is answered for a name is that of its flow's group.
  number_is : (name : List ℕ) (f : Filed) (number : ℕ) → named ledger.filed name ≡ Some f → group_answer ledger (named ledger.filed name) ≡ in_group number
      → group_number ledger.filed f ≡ number
  number_is name f number found answered =
      let told : in_group (group_number ledger.filed f) ≡ in_group number = sym (ap (group_answer ledger) found) ∙ answered in
      cc

  -- A kept flow stands in the book.
  in_book : (name : List ℕ) (from : Source) (x : Known name from) → At ledger.filed x.position x.flow_kept.flow
  in_book name from x =
      subst (λ (filed : List Filed). At filed x.position x.flow_kept.flow) filed_is
      (at_made (λ (k : Kept). k.flow) keeps.kept x.position x.flow_kept x.stands_there)

  -- Equal numbers are those of flows that allow the same runs.
  one_number : (x y : List ℕ) (p q : Source) (number : ℕ) → source_of stands x ≡ Some p → source_of stands y ≡ Some q
      → group_answer ledger (named ledger.filed x) ≡ in_group number → group_answer ledger (named ledger.filed y) ≡ in_group number → SameSourceRuns laid p q
  one_number x y p q number is-p is-q at_x at_y =
      let k = known x p is-p in
      let l = known y q is-q in
      let left = number_is x k.flow_kept.flow number k.is_named at_x in
      let right = number_is y l.flow_kept.flow number l.is_named at_y in
      let first : first_marked ledger.filed k.flow_kept.flow.mark ≡ first_marked ledger.filed l.flow_kept.flow.mark = omega (arith, left, right) in
      let mark = one_first_one_mark ledger.filed k.position l.position k.flow_kept.flow l.flow_kept.flow (in_book x p k) (in_book y q l) first in
      subst (λ (at : Source × Source). SameSourceRuns laid at.0 at.1) (λ i. (k.is_from i, l.is_from i))
      ((keeps.sound.marks k.position l.position k.flow_kept l.flow_kept k.stands_there l.stands_there).0 mark)

  -- Flows that allow the same runs have equal numbers.
  one_group : (x y : List ℕ) (p q : Source) (m n : ℕ) → source_of stands x ≡ Some p → source_of stands y ≡ Some q
      → group_answer ledger (named ledger.filed x) ≡ in_group m → group_answer ledger (named ledger.filed y) ≡ in_group n → SameSourceRuns laid p q → m ≡ n
  one_group x y p q m n is-p is-q at_x at_y same =
      let k = known x p is-p in
      let l = known y q is-q in
      let Kept-same = subst (λ (at : Source × Source). SameSourceRuns laid at.0 at.1) (λ i. (sym k.is_from i, sym l.is_from i)) same in
      let mark = (keeps.sound.marks k.position l.position k.flow_kept l.flow_kept k.stands_there l.stands_there).1 Kept-same in
      sym (number_is x k.flow_kept.flow m k.is_named at_x) ∙ ap (λ a. suc (first_marked ledger.filed a)) mark
      ∙ number_is y l.flow_kept.flow n l.is_named at_y

-- So groups mean the same runs, after any calls from the opening on.
pub groups_mean_runs_always : GroupsMeanRunsAlways
groups_mean_runs_always laid lawful calls =
    let ledger = book_after (opened laid) calls in
    let stands = standing (events_of (opened laid) calls) in
    let keeps : Keeps laid ledger stands =
    keeps_after laid lawful calls (opened laid) [] (record { kept = []; in_the_book = refl; by_the_calls = refl; sound = none_sound laid }) in
    record {
      in_the_book = λ name source is.
          let k = known laid ledger stands keeps name source is in
          (group_number ledger.filed k.flow_kept.flow, ap (group_answer ledger) k.is_named);
      not_in_the_book = λ name is. ap (group_answer ledger) (unknown laid ledger stands keeps name is);
      same_number_same_runs = one_number laid ledger stands keeps;
      same_runs_same_number = one_group laid ledger stands keeps;
    }
