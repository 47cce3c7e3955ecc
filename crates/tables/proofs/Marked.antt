-- Some marked place has a remainder as asked exactly when some number below 64 is marked and has one.
use Rattle.std.proofs.Common.{◌≡◌, ℕ, zero, suc, ◌+◌, ◌^◌, ◌<◌, ◌≤◌, Bool, false, ◌&&◌, ◌||◌, eqb, ltb, List, [], ◌∷◌, map, length, sym, refl, ap, ◌∙◌, ap₂, ⊎_elim, arith}
use Rattle.std.proofs.lemmas.Bool.{cases_lt, cases_order, eq-eqb, le-ltb, lt-ltb, ne_eqb}
use Rattle.masks.specs.Bits.{bit}
use Rattle.masks.proofs.Operations.{bit_past}
use Rattle.kat.specs.Places.{Numbered, Place, count_from, places_in, some_marked}
use Rattle.kat.specs.Terms.{Term}
use Rattle.tables.specs.Remainders.{places_of, some_at}
use Rattle.tables.specs.Tables.{any_below}
use Rattle.tables.proofs.Bools.{and_false, and_or, or_false, or_four}

-- The same is asked of each number.
pub any_same : (f g : ℕ → Bool) (n : ℕ) → ((p : ℕ) → p < n → f p ≡ g p) → any_below f n ≡ any_below g n
unfolding any_below
any_same f g zero same = refl
any_same f g (suc n) same = ap₂ ◌||◌ (any_same f g n (λ p h. same p (omega arith))) (same n (omega arith))

-- Of none is it asked.
any_none : (b : ℕ → Bool) (n : ℕ) → any_below (λ p. b p && false) n ≡ false
unfolding any_below
any_none b zero = refl
any_none b (suc n) = ap₂ ◌||◌ (any_none b n) (and_false (b n))

-- One of two things is asked.
any_or : (f g : ℕ → Bool) (n : ℕ) → any_below (λ p. f p || g p) n ≡ (any_below f n || any_below g n)
unfolding any_below
any_or f g zero = refl
any_or f g (suc n) = ap (λ b. b || (f n || g n)) (any_or f g n) ∙ or_four (any_below f n) (any_below g n) (f n) (g n)

-- One number is asked for.
any_one : (b : ℕ → Bool) (x : Bool) (n m : ℕ) → any_below (λ p. b p && (eqb n p && x)) m ≡ (ltb n m && (b n && x))
unfolding any_below
any_one b x n zero = sym (ap (λ c. c && (b n && x)) (le-ltb n 0 (omega arith)))
any_one b x n (suc m) =
    ap (λ c. c || (b m && (eqb n m && x))) (any_one b x n m)
    ∙ ⊎_elim
    (λ (e : n ≡ m).
    ap₂ (λ c d. (c && (b n && x)) || (b m && (d && x))) (le-ltb n m (omega arith)) (eq-eqb n m e)
    ∙ ap (λ k. b k && x) (sym e)
    ∙ sym (ap (λ c. c && (b n && x)) (lt-ltb n (suc m) (omega arith))))
    (⊎_elim
    (λ (lt : n < m).
    ap₂ (λ c d. (c && (b n && x)) || (b m && (d && x))) (lt-ltb n m lt) (ne_eqb n m (λ e. absurd (omega arith)))
    ∙ ap (λ c. (b n && x) || c) (and_false (b m)) ∙ or_false (b n && x)
    ∙ sym (ap (λ c. c && (b n && x)) (lt-ltb n (suc m) (omega arith))))
    (λ (gt : m < n).
    ap₂ (λ c d. (c && (b n && x)) || (b m && (d && x))) (le-ltb n m (omega arith)) (ne_eqb n m (λ e. absurd (omega arith)))
    ∙ and_false (b m)
    ∙ sym (ap (λ c. c && (b n && x)) (le-ltb n (suc m) (omega arith)))))
    (cases_order n m)

-- A place that is marked has a number below 64.
abbrev pub Seen : ℕ → List Place → Type 0
Seen code [] = Unit {0}
Seen code (place ∷ places) = (64 ≤ place.number → bit place.number code ≡ false) × Seen code places

seen_one : (n code : ℕ) (x : Bool) → (64 ≤ n → bit n code ≡ false) → (bit n code && x) ≡ (ltb n 64 && (bit n code && x))
seen_one n code x seen =
    ⊎_elim
    (λ (h : n < 64). sym (ap (λ c. c && (bit n code && x)) (lt-ltb n 64 h)))
    (λ (h : 64 ≤ n). ap (λ c. c && x) (seen h) ∙ sym (ap (λ c. c && (bit n code && x)) (le-ltb n 64 h)))
    (cases_lt n 64)

pub some_marked_lem : (code : ℕ) (asked : Term → Bool) (places : List Place) → Seen code places → some_marked code asked places ≡ any_below (λ p. bit p code && some_at p asked places) 64
some_marked_lem code asked [] seen = sym (any_none (λ p. bit p code) 64)
some_marked_lem code asked (place ∷ places) seen =
    let x = asked place.remainder in
    let n = place.number in
    ap₂ ◌||◌ (seen_one n code x seen.0 ∙ sym (any_one (λ p. bit p code) x n 64)) (some_marked_lem code asked places seen.1)
    ∙ sym (any_or (λ p. bit p code && (eqb n p && x)) (λ p. bit p code && some_at p asked places) 64)
    ∙ any_same (λ p. (bit p code && (eqb n p && x)) || (bit p code && some_at p asked places)) (λ p. bit p code && some_at p asked (place ∷ places)) 64
    (λ p h. sym (and_or (bit p code) (eqb n p && x) (some_at p asked places)))

-- A code of 64 bits marks no other.
pub seen_on_codes : (code : ℕ) → code < 2 ^ 64 → (places : List Place) → Seen code places
seen_on_codes code h [] = tt
seen_on_codes code h (place ∷ places) = (λ le. bit_past code 64 place.number h le, seen_on_codes code h places)

-- Places numbered in the order of the text have no other.
seen_counted : (code first n : ℕ) (places : List Place) → first + n ≤ 64 → map (λ place. place.number) places ≡ count_from first n → Seen code places
seen_counted code first n [] few is = tt
seen_counted code first zero (place ∷ places) few is = let no : ◌≡◌ {A = ℕ} 0 1 = cc in absurd (omega arith)
seen_counted code first (suc n) (place ∷ places) few is =
    let here : place.number ≡ first = cc in
    let rest : map (λ place. place.number) places ≡ count_from (suc first) n = cc in
    (λ le. absurd (omega arith), seen_counted code (suc first) n places (omega arith) rest)

pub seen_numbered : (code : ℕ) (e : Term) → Numbered e → Seen code (places_of e)
seen_numbered code e numbered =
    let few = numbered.few in
    (λ le. absurd (omega arith), seen_counted code 1 (length (places_in e)) (places_in e) (omega arith) numbered.in_text_order)
