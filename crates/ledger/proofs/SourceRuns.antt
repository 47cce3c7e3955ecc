-- Sources that allow the same runs, and what a walk of the flows made from two sources says of them.
use Rattle.std.proofs.Common.{◌≡◌, ℕ, Bool, true, false, sym, refl, ◌∙◌, subst}
use Rattle.runs.proofs.Different.{different_shows_a_shortest_run}
use Rattle.runs.proofs.Equal.{equal_means_same_runs}
use Rattle.runs.specs.Flows.{FlowMeaning, allows}
use Rattle.runs.specs.Runs.{Run, Within}
use Rattle.runs.specs.Walks.{different, equal}
use Rattle.sheet.specs.Laid.{LaidOut}
use Rattle.walk.specs.Judged.{run_at, walk_of}
use Rattle.ledger.specs.Sources.{InRange, SameSourceRuns, Source}
use Rattle.ledger.proofs.Made.{Made}

-- A source allows the runs that it allows.
pub same_as_itself : (laid : LaidOut) (x : Source) → SameSourceRuns laid x x
same_as_itself laid x run within = (λ a. a, λ a. a)

-- To allow the same runs goes both ways,
pub same_back : (laid : LaidOut) (x y : Source) → SameSourceRuns laid x y → SameSourceRuns laid y x
same_back laid x y same run within = ((same run within).1, (same run within).0)

-- and on from source to source.
pub same_on : (laid : LaidOut) (x y z : Source) → SameSourceRuns laid x y → SameSourceRuns laid y z → SameSourceRuns laid x z
same_on laid x y z first second run within =
    (λ a. (second run within).0 ((first run within).0 a), λ a. (first run within).1 ((second run within).1 a))

-- Two answers are the same where each is yes if the other is.
same_answers : (a b : Bool) → (a ≡ true → b ≡ true) → (b ≡ true → a ≡ true) → a ≡ b
same_answers true b forth back = sym (forth refl)
same_answers false true forth back = back refl
same_answers false false forth back = refl

module _ (laid : LaidOut) (f g : FlowMeaning) (p q : Source) (left : Made laid f p) (right : Made laid g q) where
  -- A run in the range of the left flow is in the range of the sheet,
  in_sheet : (run : Run) → Within f.situations f.actions run → InRange laid run
  in_sheet run = subst (λ (m : ℕ × ℕ). Within m.0 m.1 run) (λ i. (left.of_the_sheet i, left.of_the_names i))

  -- and back.
  in_flow : (run : Run) → InRange laid run → Within f.situations f.actions run
  in_flow run = subst (λ (m : ℕ × ℕ). Within m.0 m.1 run) (λ i. (sym left.of_the_sheet i, sym left.of_the_names i))

  -- An equal ending means that the sources allow the same runs.
  pub equal_is_same : (room count : ℕ) → walk_of f g room ≡ equal count → SameSourceRuns laid p q
  equal_is_same room count ends run within =
      let same = (equal_means_same_runs f.situations f.actions room count f g ends).same_runs run (in_flow run within) in (
        λ a. right.no_more run within (sym same ∙ left.no_less run within a),
        λ a. left.no_more run within (same ∙ right.no_less run within a),
      )

  -- A different ending means that they do not.
  pub different_is_not_same : (room i : ℕ) → walk_of f g room ≡ different i → SameSourceRuns laid p q → ⊥
  different_is_not_same room i ends same =
      let run = run_at f g i in
      let shown = different_shows_a_shortest_run room i f g left.lawful right.lawful (left.of_the_sheet ∙ sym right.of_the_sheet) ends in
      let within = in_sheet run shown.within in
      shown.parts
      (same_answers (allows f run) (allows g run)
      (λ yes. right.no_less run within ((same run within).0 (left.no_more run within yes)))
      (λ yes. left.no_less run within ((same run within).1 (right.no_more run within yes))))
