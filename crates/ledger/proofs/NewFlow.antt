-- A new flow gets the mark of the flows that allow its runs: that of the group that it joins, or the free one where it is alone.
use Rattle.std.proofs.Common.{◌≡◌, ℕ, ◌+◌, true, List, sym, refl, ap, ◌∙◌, subst, arith}
use Rattle.std.proofs.lemmas.Bool.{both_ways}
use Rattle.runs.specs.Walks.{different, equal}
use Rattle.sheet.specs.Laid.{LaidOut}
use Rattle.walk.specs.Judged.{walk_of}
use Rattle.ledger.specs.Joining.{alone, joins}
use Rattle.ledger.specs.Ledgers.{Filed, Shape, first_marked, flow_of, free_mark, has_mark}
use Rattle.ledger.specs.Sources.{SameSourceRuns, Source}
use Rattle.ledger.proofs.Kept.{Kept, MarkedByRuns, Sound, flows_of}
use Rattle.ledger.proofs.Made.{Made}
use Rattle.ledger.proofs.Marks.{first_has_mark, free_is_free, mark_is_had}
use Rattle.ledger.proofs.Placed.{Says}
use Rattle.ledger.proofs.Positions.{At, at_made, made_at}
use Rattle.ledger.proofs.SourceRuns.{different_is_not_same, equal_is_same, same_back, same_on}

module _ (laid : LaidOut) (kept : List Kept) (sound : Sound laid kept) (name : List ℕ) (shape : Shape) (source : Source) (room : ℕ)
    (made : Made laid (flow_of laid shape) source) where
  -- The new flow with a mark.
  abbrev pub new_with : ℕ → Kept
  new_with mark = record { flow = record { name = name; shape = shape; mark = mark }; source = source }

  -- The group that it joins is that of the flows with its runs.
  pub joined_by_runs : (mark : ℕ) → Says laid (flow_of laid shape) room (flows_of kept) 0 (flows_of kept) (joins mark)
      → (i : ℕ) (k : Kept) → At kept i k → MarkedByRuns laid k (new_with mark)
  joined_by_runs mark (j, g, count, q, marked, ends) i k p =
      let found = made_at (λ (x : Kept). x.flow) kept j g q in
      let l = found.0 in
      let ends' = subst (λ (x : Filed). walk_of (flow_of laid shape) (flow_of laid x.shape) room ≡ equal count) (sym found.2) ends in
      let same : SameSourceRuns laid source l.source =
      equal_is_same laid (flow_of laid shape) (flow_of laid l.flow.shape) source l.source made (sound.made j l found.1) room count ends' in
      let its : l.flow.mark ≡ mark = ap (λ (x : Filed). x.mark) found.2 ∙ marked in
      let by = sound.marks i j k l p found.1 in (
        λ one. same_on laid k.source l.source source (by.0 (one ∙ sym its)) (same_back laid source l.source same),
        λ alike. by.1 (same_on laid k.source source l.source alike same) ∙ its,
      )

  -- Where it is alone, no flow has its runs: it was told apart from the first flow of each group.
  alone_by_runs : Says laid (flow_of laid shape) room (flows_of kept) 0 (flows_of kept) alone → (i : ℕ) (k : Kept) → At kept i k → SameSourceRuns laid k.source source → ⊥
  alone_by_runs said i k p alike =
      let all = flows_of kept in
      let first = first_has_mark all i k.flow k.flow.mark (at_made (λ (x : Kept). x.flow) kept i k p) refl in
      let j = first_marked all k.flow.mark in
      let there : first_marked all first.0.mark ≡ 0 + j = ap (first_marked all) first.2 ∙ omega arith in
      let apart = said j first.0 first.1 there in
      let found = made_at (λ (x : Kept). x.flow) kept j first.0 first.1 in
      let l = found.0 in
      let ends = subst (λ (x : Filed). walk_of (flow_of laid shape) (flow_of laid x.shape) room ≡ different apart.0) (sym found.2) apart.1 in
      let one : k.flow.mark ≡ l.flow.mark = sym (ap (λ (x : Filed). x.mark) found.2 ∙ first.2) in
      let same = (sound.marks i j k l p found.1).0 one in
      different_is_not_same laid (flow_of laid shape) (flow_of laid l.flow.shape) source l.source made (sound.made j l found.1) room apart.0 ends
      (same_on laid source k.source l.source (same_back laid k.source source alike) same)

  -- So with the free mark it has a mark that no flow has, and runs that no flow has.
  pub free_by_runs : Says laid (flow_of laid shape) room (flows_of kept) 0 (flows_of kept) alone
      → (i : ℕ) (k : Kept) → At kept i k → MarkedByRuns laid k (new_with (free_mark (flows_of kept)))
  free_by_runs said i k p =
      let all = flows_of kept in
      let had = mark_is_had all i k.flow (at_made (λ (x : Kept). x.flow) kept i k p) in (
        λ one. absurd (both_ways (has_mark all (free_mark all)) (free_is_free all) (subst (λ mark. has_mark all mark ≡ true) one had)),
        λ alike. absurd (alone_by_runs said i k p alike),
      )
