-- Words: what they are made of, how far they go, and where they end.
use Rattle.std.proofs.Common.{◌≡◌, ℕ, suc, ◌+◌, ◌<◌, Bool, true, false, not, leb, List, [], ◌∷◌, ◌++◌, length, get_or, drop, codes, sym, refl, ap, add-one, one-add, drop-cons}
use Rattle.std.specs.List.{list_all, prefix_len}
use Rattle.std.specs.Str.{bytes_eq}
use Rattle.std.proofs.lemmas.Slice.Eq.{bytes_eq-Decides}
use Rattle.std.proofs.lemmas.Bool.{and_from, and_parts, or_parts, not-true}
use Rattle.signs.specs.Names.{inner, spelled, reserved}
use Rattle.signs.specs.Runs.{inner_run, inner_part}
use Rattle.signs.specs.Signs.{Mark, named, skipping, stopping, bytes_of, stands_at, behind, word_of}
use Rattle.signs.specs.Spelling.{well_made, as_long_as_can_be, stops}

-- what holds of the two words, where the bytes are theirs, and else of the name, holds of a word
by_word : (P : Mark → Type 0) (word : List ℕ) (place : ℕ)
    → (word ≡ codes "skip" → P (skipping place)) → (word ≡ codes "stop" → P (stopping place))
    → (reserved word ≡ false → P (named word place)) → P (word_of word place)
by_word P word place skip stop name = go (bytes_eq word (codes "skip")) refl (bytes_eq word (codes "stop")) refl
  where
    go : (x : Bool) → bytes_eq word (codes "skip") ≡ x → (y : Bool) → bytes_eq word (codes "stop") ≡ y → P (word_of word place)
    go true e y f = rw e (skip ((bytes_eq-Decides word (codes "skip")).0 e))
    go false e true f = rw (e, f) (stop ((bytes_eq-Decides word (codes "stop")).0 f))
    go false e false f = rw (e, f) (name (rw (e, f)))

pub word_bytes : (word : List ℕ) (place : ℕ) → bytes_of (word_of word place) ≡ word
word_bytes word place = by_word (λ m. bytes_of m ≡ word) word place (λ e. sym e) (λ e. sym e) (λ _. refl)

pub word_stands : (word : List ℕ) (place : ℕ) → stands_at (word_of word place) ≡ place
word_stands word place = by_word (λ m. stands_at m ≡ place) word place (λ _. refl) (λ _. refl) (λ _. refl)

pub word_behind : (word : List ℕ) (place : ℕ) → behind (word_of word place) ≡ place + length word
word_behind word place = rw (word_bytes, word_stands)

pub word_made : (word : List ℕ) (place : ℕ) → spelled word ≡ true → leb (length word) 12 ≡ true → well_made (word_of word place) ≡ true
word_made word place s l =
    by_word (λ m. well_made m ≡ true) word place (λ _. refl) (λ _. refl) (λ free. and_from _ _ (and_from _ _ s l) (ap not free))

pub word_whole : (word : List ℕ) (place : ℕ) (rest : List ℕ) → stops rest ≡ true → as_long_as_can_be (word_of word place) rest ≡ true
word_whole word place rest h = by_word (λ m. as_long_as_can_be m rest ≡ true) word place (λ _. h) (λ _. h) (λ _. h)

pub word_named : (word : List ℕ) (place : ℕ) → reserved word ≡ false → word_of word place ≡ named word place
word_named word place free =
    let p = or_parts (bytes_eq word (codes "skip")) (bytes_eq word (codes "stop")) free in
    rw (p.0, p.1)

-- the bytes of a run are all inner, and what follows it is not
pub run_inner : (bs : List ℕ) → list_all inner (inner_run bs) ≡ true
run_inner [] = refl
run_inner (b ∷ bs) = go (inner b) refl (run_inner bs)
  where
    go : (x : Bool) → inner b ≡ x → list_all inner (inner_run bs) ≡ true → list_all inner (inner_run (b ∷ bs)) ≡ true
    go true e h = rw (e, one-add) (and_from _ _ e h)
    go false e h = rw e

pub run_stops : (bs : List ℕ) → stops (drop (prefix_len inner bs) bs) ≡ true
run_stops [] = refl
run_stops (b ∷ bs) = go (inner b) refl (run_stops bs)
  where
    go : (x : Bool) → inner b ≡ x → stops (drop (prefix_len inner bs) bs) ≡ true → stops (drop (prefix_len inner (b ∷ bs)) (b ∷ bs)) ≡ true
    go true e h = rw (e, one-add) h
    go false e h = rw (e, e)

-- a run goes on to where it stops
pub run_length : (word rest : List ℕ) → list_all inner word ≡ true → stops rest ≡ true → prefix_len inner (word ++ rest) ≡ length word
run_length [] [] h s = refl
run_length [] (b ∷ bs) h s = rw (not-true (inner b) s)
run_length (b ∷ word) rest h s =
    let p = and_parts (inner b) (list_all inner word) h in
    rw (p.0, one-add) (ap suc (run_length word rest p.1 s))

-- a run that begins with an inner byte
pub part_first : (place : ℕ) (text : List ℕ) → place < length text → inner (get_or text place 0) ≡ true → inner_part place text ≡ get_or text place 0 ∷ inner_run (drop (place + 1) text)
part_first place text lt h = rw (add-one, drop-cons text place 0, h, one-add)
