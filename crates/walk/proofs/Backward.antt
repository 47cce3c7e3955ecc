-- The way back through a table, and the run that is read off it.
use Rattle.std.proofs.Common.{◌≡◌, ℕ, zero, suc, ◌+◌, ◌*◌, ◌<◌, ◌≤◌, List, [], ◌∷◌, ◌++◌, map, length, reverse, get_or, drop, set, sym, refl, ap, ◌∙◌, arith}
use lib.ListN.{get_or-map}
use Rattle.std.proofs.lemmas.List.{drop-set, length-reverse, length-set, nil_from_length, reverse-append, reverse-reverse}
use Rattle.runs.specs.Runs.{Move}
use Rattle.runs.specs.Tracing.{traced_back, written_before}
use Rattle.runs.specs.Walks.{Listed}
use Rattle.runs.proofs.Tracebacks as tracebacks
use Rattle.walk.specs.declared.record.PairRecord.{PairRecord}
use Rattle.walk.specs.Records.{listed_of, zero_record}
use Rattle.walk.specs.Traced.{MetEarlier, move_to, moves_back, moves_to}

-- The way back from a record is its own move, and the way back from the record that it was met from.
pub one_back : (table : List PairRecord) (i : ℕ) → MetEarlier table i → (i ≡ 0 → ⊥)
    → moves_back table i ≡ move_to (get_or table i zero_record) ∷ moves_back table (get_or table i zero_record).from
one_back table i met some =
    let entry_of = λ (j : ℕ). get_or-map listed_of table j zero_record in
    ap reverse
    (tracebacks.one_back (map listed_of table) i (λ j more h. rw (entry_of j) (met.1 j more h)) i (omega arith) (omega arith)
    ∙ ap (λ (entry : Listed). traced_back (map listed_of table) entry.from entry.from ++ (entry.move ∷ [])) (entry_of i))
    ∙ reverse-append (moves_to table (get_or table i zero_record).from) _

-- The bytes of moves, and more behind them.
abbrev pub bytes_before : List Move → List ℕ → List ℕ
bytes_before [] rest = rest
bytes_before (move ∷ moves) rest = move.situation ∷ move.action ∷ bytes_before moves rest

-- The bytes of one move more.
bytes_more : (moves : List Move) (move : Move) (rest : List ℕ) → bytes_before (moves ++ (move ∷ [])) rest ≡ bytes_before moves (move.situation ∷ move.action ∷ rest)
bytes_more [] move rest = refl
bytes_more (first ∷ moves) move rest = ap (λ bytes. first.situation ∷ first.action ∷ bytes) (bytes_more moves move rest)

-- The bytes of a run, and more behind them.
bytes_written : (moves : List Move) (last : ℕ) (rest : List ℕ) → written_before moves last ++ rest ≡ bytes_before moves (last ∷ rest)
bytes_written [] last rest = refl
bytes_written (move ∷ moves) last rest = ap (λ bytes. move.situation ∷ move.action ∷ bytes) (bytes_written moves last rest)

-- Two bytes written at a place lie before what is behind them.
two_written : (place s a : ℕ) (run : List ℕ) → suc place < length run → drop place (set (set run place s) (suc place) a) ≡ s ∷ a ∷ drop (suc (suc place)) run
two_written zero s a [] h = absurd (omega arith)
two_written zero s a (x ∷ []) h = absurd (omega arith)
two_written zero s a (x ∷ y ∷ run) h = refl
two_written (suc place) s a [] h = absurd (omega arith)
two_written (suc place) s a (x ∷ run) h = two_written place s a run (omega arith)

-- Of all moves on a way back the rest are left, in so many turns; the others have been written behind their place, over what the buffer held when the last
-- situation stood in it.
pub record Writing (all rest : List Move) (begun run : List ℕ) (turns : ℕ) : Type 0 where
  pub left : turns ≡ length rest
  pub fits : 2 * turns < length run
  pub whole : bytes_before (reverse rest) (drop (2 * turns) run) ≡ bytes_before (reverse all) (drop (2 * length all) begun)

-- None has been.
pub write_none : {all rest : List Move} {begun : List ℕ} {actions turns : ℕ} → rest ≡ all → turns ≡ actions → actions ≡ length all → 2 * actions < length begun
    → Writing all rest begun begun turns
write_none {all} {rest} {begun} {actions} {turns} is same many fits = record {
  left = omega (arith, ap length is);
  fits = omega arith;
  whole = (λ j. bytes_before (reverse (is j)) (drop (2 * (same ∙ many) j) begun));
}

-- One more has been.
pub write_more : {all rest left : List Move} {begun run : List ℕ} {turns turn after : ℕ} (move : Move) → Writing all rest begun run turns → rest ≡ move ∷ left
    → turn ≡ after → turns ≡ after + 1 → Writing all left begun (set (set run (2 * turn) move.situation) (2 * turn + 1) move.action) after
write_more {all} {rest} {left} {begun} {run} {turns} {turn} {after} move w is at one =
    let next : suc (2 * turn) ≡ 2 * turn + 1 = omega arith in
    let behind : suc (suc (2 * turn)) ≡ 2 * turns = omega arith in
    record {
      left = omega (arith, w.left, ap length is);
      fits = simp length-set (omega (arith, w.fits));
      whole =
          ap (bytes_before (reverse left))
          ((λ j. drop (2 * sym at j) (set (set run (2 * turn) move.situation) (sym next j) move.action)) ∙ two_written (2 * turn) move.situation move.action run (omega (arith, w.fits))
          ∙ ap (λ n. move.situation ∷ move.action ∷ drop n run) behind)
          ∙ sym (ap (λ moves. bytes_before moves (drop (2 * turns) run)) (ap reverse is ∙ reverse-append (move ∷ []) left) ∙ bytes_more (reverse left) move (drop (2 * turns) run))
          ∙ w.whole;
    }

-- All have been, and so the run has.
pub write_all : {rest : List Move} {run : List ℕ} {turns : ℕ} (moves : List Move) (begun : List ℕ) (actions last : ℕ)
    → Writing (reverse moves) rest (set begun (2 * actions) last) run turns → turns ≡ 0 → actions ≡ length moves → 2 * actions + 1 ≤ length begun
    → run ≡ written_before moves last ++ drop (2 * actions + 1) begun
write_all {rest} {run} {turns} moves begun actions last w none many fits =
    let nothing : rest ≡ [] = nil_from_length rest (omega (arith, w.left)) in
    let all : length (reverse moves) ≡ actions = length-reverse moves ∙ sym many in
    sym (λ j. bytes_before (reverse (nothing j)) (drop (2 * none j) run)) ∙ w.whole
    ∙ (λ j. bytes_before (reverse-reverse moves j) (((λ k. drop (2 * all k) (set begun (2 * actions) last)) ∙ drop-set begun (2 * actions) last (omega arith)) j))
    ∙ sym (bytes_written moves last (drop (2 * actions + 1) begun))
