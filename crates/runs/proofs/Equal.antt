-- An equal ending means the same runs: the walk's list passes the check.
use Rattle.std.proofs.Common.{◌≡◌, ℕ, ◌<◌, true, List, sym, ap, ◌∙◌, arith}
use Rattle.runs.specs.Flows.{FlowMeaning}
use Rattle.runs.specs.Pairs.{Pair, disagree_at, next_pair, start_pair}
use Rattle.runs.specs.Runs.{Move}
use Rattle.runs.specs.Theorems.{EqualMeansSameRuns}
use Rattle.runs.specs.Walks.{Listed, at, equal, has, list_after}
use Rattle.runs.proofs.Closed.{Closed, closed_passing, closed_same_runs}
use Rattle.runs.proofs.Endings.{Said, ending_says, live_length}
use Rattle.runs.proofs.ListedPairs.{among_has, pairs_of}
use Rattle.runs.proofs.Listing.{front_at, has_held, held_has}
use Rattle.runs.proofs.Moves.{one_of_moves}
use Rattle.runs.proofs.Pairs.{masks_agree}
use Rattle.runs.proofs.Trees.{Tree, list_front, next_listed, tree_listed}

module _ (n k room count : ℕ) (f g : FlowMeaning) (s : Said n k f g room (equal count)) where
  -- The list that the walk ended with.
  abbrev list : List Listed
  list = list_after n k f g count

  -- It is a tree, as every pair was there to be followed.
  tree : Tree n k f g count list
  tree = tree_listed n k f g count s.0

  -- A pair of the list was followed, under its number.
  followed_pair : (p : Pair) → has p list ≡ true → (j : ℕ) × (j < count) × (at (list_after n k f g j) j ≡ p)
  followed_pair p h =
      let held = has_held p list h in
      let less : held.0 < count = omega (arith, held.1, s.2) in
      (held.0, less, sym (front_at (list_after n k f g held.0) list (list_front n k f g held.0 count (omega arith)) held.0 (s.0 held.0 less)) ∙ held.2)

  -- So the flows agree at it.
  agreed_pair : (p : Pair) → has p list ≡ true → f.accept p.left ≡ g.accept p.right
  agreed_pair p h = let was = followed_pair p h in masks_agree f g p (ap (disagree_at f g) (sym was.2) ∙ s.1 was.0 was.1)

  -- And what moves lead to from it is listed.
  next_pair_lem : (p : Pair) → has p list ≡ true → (move : Move) → move.situation < n → move.action < k → has (next_pair f g p move) list ≡ true
  next_pair_lem p h move below-n below-k =
      let was = followed_pair p h in
      ap (λ q. has (next_pair f g q move) list) (sym was.2) ∙ next_listed n k f g count was.0 was.1 move (one_of_moves move n k below-n below-k)

  -- So the list is closed.
  closed : Closed n k f g (pairs_of list)
  closed = (
    among_has (start_pair f g) list ∙ held_has (start_pair f g) list 0 tree.some tree.root,
    λ p among.
        let h : has p list ≡ true = sym (among_has p list) ∙ among in
        (agreed_pair p h, λ move below-n below-k. among_has (next_pair f g p move) list ∙ next_pair_lem p h move below-n below-k),
  )

-- What an equal ending says.
pub equal_means_same_runs : EqualMeansSameRuns
equal_means_same_runs n k room count f g e =
    let s = ending_says n k f g room (equal count) e in
    let least = live_length n k f g count s.0 in
    let shows = closed n k room count f g s in
    record {
      counted = omega (arith, least, s.2);
      in_the_room = omega (arith, least, s.3);
      list_passes = closed_passing n k f g (pairs_of (list_after n k f g count)) shows;
      same_runs = closed_same_runs n k f g (pairs_of (list_after n k f g count)) shows;
    }
