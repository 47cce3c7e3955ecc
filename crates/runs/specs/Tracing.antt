-- The run that tells two flows apart, read off the walk's list.
use Rattle.std.specs.Prelude.{◌≡◌, ℕ, zero, suc, ◌/◌, ◌%◌, ◌<◌, Bool, true, false, List, [], ◌∷◌, ◌++◌, ◌==◌, slice_index_or}
use Rattle.runs.specs.Flows.{FlowMeaning, allows}
use Rattle.runs.specs.Runs.{Move, Run, Within, actions_of}
use Rattle.runs.specs.Walks.{Listed, at, list_after, no_listed}

-- The moves that led to pair i, back through the pairs from which each was first met; as many steps as i are enough.
abbrev pub traced_back : List Listed → ℕ → ℕ → List Move
traced_back list zero i = []
traced_back list (suc steps) zero = []
traced_back list (suc steps) (suc i) = traced_back list steps (slice_index_or list (suc i) no_listed).from ++ ((slice_index_or list (suc i) no_listed).move ∷ [])

-- The lowest situation, below n, that only one of two masks has.
abbrev pub lowest_if : Bool → ℕ → ℕ
lowest_if true higher = suc higher
lowest_if false higher = 0

abbrev pub lowest_apart : ℕ → ℕ → ℕ → ℕ
lowest_apart zero a b = 0
lowest_apart (suc n) a b = lowest_if (a % 2 == b % 2) (lowest_apart n (a / 2) (b / 2))

-- The run that a walk shows which ended at pair i: the moves that led there, and the lowest situation that one side alone accepts there.
abbrev pub shown_run : ℕ → ℕ → FlowMeaning → FlowMeaning → ℕ → Run
shown_run n k f g i = record {
  moves = traced_back (list_after n k f g i) i i;
  last = lowest_apart n (f.accept (at (list_after n k f g i) i).left) (g.accept (at (list_after n k f g i) i).right);
}

-- The run is a shortest on which the two part, and ends in the lowest situation that tells them apart there.
pub record ShortestApart (n k : ℕ) (f g : FlowMeaning) (run : Run) : Type 0 where
  pub within : Within n k run
  pub parts : allows f run ≡ allows g run → ⊥
  pub shortest : (other : Run) → Within n k other → actions_of other < actions_of run → allows f other ≡ allows g other
  pub lowest : (s : ℕ) → s < run.last → allows f (record { moves = run.moves; last = s }) ≡ allows g (record { moves = run.moves; last = s })

-- A run written down: s0 a1 s1 .. an sn, a byte each.
abbrev pub written_before : List Move → ℕ → List ℕ
written_before [] last = last ∷ []
written_before (move ∷ moves) last = move.situation ∷ move.action ∷ written_before moves last

abbrev pub written : Run → List ℕ
written run = written_before run.moves run.last
