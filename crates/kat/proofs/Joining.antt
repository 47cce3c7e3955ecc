-- Runs joined: joining is associative and has the single situations as its units, and a joined run that begins with a move
-- has it in its first part, or its first part is a single situation.
use Rattle.std.proofs.Common.{◌≡◌, ℕ, zero, suc, ◌⊎◌, List, [], ◌∷◌, ◌++◌, sym, refl, ap, ◌∙◌, subst, inl, inr, append_assoc, append-nil}
use mathlib.Core.List.{head-eq_of_cons-eq, tail-eq_of_cons-eq}
use Rattle.runs.specs.Runs.{Move, Run, first_before, first_of, joined, single}
use Rattle.kat.specs.Algebra.{Joined, Power, Single}

-- A set of runs.
abbrev pub Runs : Type 1
Runs = Run → Type 0

-- The run of these moves that ends in this situation.
abbrev pub run_of : List Move → ℕ → Run
run_of moves last = record { moves = moves; last = last }

-- A joined run begins where its first part begins.
joined_first : (xs ys : List Move) (s t : ℕ) → s ≡ first_before ys t → first_before (xs ++ ys) t ≡ first_before xs s
joined_first [] ys s t e = sym e
joined_first (x ∷ xs) ys s t e = refl

-- A single situation in front changes nothing.
pub single_first : (P : Runs) (run : Run) → Joined Single P run → P run
single_first P run (x, y, (s, is), p, meet, whole) = subst P (sym (whole ∙ ap (λ (z : Run). joined z y) is)) p

-- Each run has its first situation in front.
pub first_single : (P : Runs) (run : Run) → P run → Joined Single P run
first_single P run p = (single (first_of run), run, (first_of run, refl), p, refl, refl)

-- A single situation behind a run is its last, and changes nothing.
pub single_last : (P : Runs) (run : Run) → Joined P Single run → P run
single_last P run (x, y, p, (s, is), meet, whole) =
    let there : x.last ≡ s = meet ∙ ap (λ (z : Run). first_of z) is in
    let same : joined x (single s) ≡ x = λ i. run_of (append-nil x.moves i) (sym there i) in
    subst P (sym (whole ∙ ap (λ (z : Run). joined x z) is ∙ same)) p

-- Each run has its last situation behind it.
pub last_single : (P : Runs) (run : Run) → P run → Joined P Single run
last_single P run p =
    (run, single run.last, p, (run.last, refl), refl, λ i. run_of (sym (append-nil run.moves) i) run.last)

-- Of three parts, the second joins the first as well as the third.
pub joined_left : (P Q R : Runs) (run : Run) → Joined P (Joined Q R) run → Joined (Joined P Q) R run
joined_left P Q R run (x, yz, p, (y, z, q, r, meet, part), meets, whole) =
    let there : x.last ≡ first_of y = meets ∙ ap (λ (v : Run). first_of v) part ∙ joined_first y.moves z.moves y.last z.last meet in
    let same : joined x (joined y z) ≡ joined (joined x y) z = λ i. run_of (sym (append_assoc x.moves y.moves z.moves) i) z.last in
    (joined x y, z, (x, y, p, q, there, refl), r, meet, whole ∙ ap (λ (v : Run). joined x v) part ∙ same)

-- And back.
pub joined_right : (P Q R : Runs) (run : Run) → Joined (Joined P Q) R run → Joined P (Joined Q R) run
joined_right P Q R run (xy, z, (x, y, p, q, meet, part), r, meets, whole) =
    let there : y.last ≡ first_of z = sym (ap (λ (v : Run). v.last) part) ∙ meets in
    let begin : first_of (joined y z) ≡ first_of y = joined_first y.moves z.moves y.last z.last there in
    let same : joined (joined x y) z ≡ joined x (joined y z) = λ i. run_of (append_assoc x.moves y.moves z.moves i) z.last in
    (x, joined y z, p, (y, z, q, r, there, refl), meet ∙ sym begin, whole ∙ ap (λ (v : Run). joined v z) part ∙ same)

-- Larger sets have the joined runs of smaller ones.
pub joined_map : (P P' Q Q' : Runs) → ((run : Run) → P run → P' run) → ((run : Run) → Q run → Q' run)
    → (run : Run) → Joined P Q run → Joined P' Q' run
joined_map P P' Q Q' f g run (x, y, p, q, meet, whole) = (x, y, f x p, g y q, meet, whole)

-- So many runs and one more behind them are one more in front of so many.
pub one_more_first : (P : Runs) (n : ℕ) (run : Run) → Joined (Power P n) P run → Joined P (Power P n) run
one_more_first P zero run h = last_single P run (single_first P run h)
one_more_first P (suc n) run h =
    joined_map P P (Joined (Power P n) P) (Joined P (Power P n)) (λ x p. p) (one_more_first P n) run (joined_right P (Power P n) P run h)

-- And back.
pub one_more_last : (P : Runs) (n : ℕ) (run : Run) → Joined P (Power P n) run → Joined (Power P n) P run
one_more_last P zero run h = first_single P run (single_last P run h)
one_more_last P (suc n) run h =
    joined_left P (Power P n) P run
    (joined_map P P (Joined P (Power P n)) (Joined (Power P n) P) (λ x p. p) (one_more_last P n) run h)

-- A run that begins with a move.
abbrev pub behind : Move → Run → Run
behind m run = record { moves = m ∷ run.moves; last = run.last }

-- The runs that, begun with the move, are in the set.
abbrev pub Behind : Move → Runs → Runs
Behind m P run = P (behind m run)

-- A joined run that begins with a move: its first part is the situation of the move alone, or begins with the move.
pub first_move : (P Q : Runs) (m : Move) (run : Run) → Joined P Q (behind m run)
    → (P (single m.situation) × Q (behind m run)) ⊎ Joined (Behind m P) Q run
first_move P Q m run (x, y, p, q, meet, whole) = go x.moves x.last p meet whole
  where
    go : (xs : List Move) (s : ℕ) → P (run_of xs s) → s ≡ first_of y → behind m run ≡ joined (run_of xs s) y
        → (P (single m.situation) × Q (behind m run)) ⊎ Joined (Behind m P) Q run
    go [] s p meet whole =
        let there : s ≡ m.situation = meet ∙ ap (λ (z : Run). first_of z) (sym whole) in
        inl (subst (λ r. P (single r)) there p, subst Q (sym whole) q)
    go (z ∷ xs) s p meet whole =
        let moves = ap (λ (v : Run). v.moves) whole in
        let same : z ≡ m = sym (head-eq_of_cons-eq moves) in
        let rest : run.moves ≡ xs ++ y.moves = tail-eq_of_cons-eq moves in
        let ends : run.last ≡ y.last = ap (λ (v : Run). v.last) whole in
        inr (run_of xs s, y, subst (λ v. P (run_of (v ∷ xs) s)) same p, q, meet, λ i. run_of (rest i) (ends i))

-- And back: a first part that begins with the move.
pub move_first : (P Q : Runs) (m : Move) (run : Run) → Joined (Behind m P) Q run → Joined P Q (behind m run)
move_first P Q m run (x, y, p, q, meet, whole) = (behind m x, y, p, q, meet, ap (λ (z : Run). behind m z) whole)

-- And a first part of the situation alone.
pub situation_first : (P Q : Runs) (m : Move) (run : Run) → P (single m.situation) → Q (behind m run) → Joined P Q (behind m run)
situation_first P Q m run p q = (single m.situation, behind m run, p, q, refl, refl)
