-- The union of masks, and the end masks with one joined in.
use Rattle.std.proofs.Common.{◌≡◌, ℕ, zero, suc, ◌+◌, ◌^◌, ◌<◌, ◌≤◌, Bool, true, false, cond, ◌||◌, eqb, List, ◌∷◌, ◌++◌, length, get_or, set, take, sym, refl, ap, ◌∙◌, subst, ⊎_elim, pow-suc, arith, pow_mono}
use lib.Bits.{bit_or, or_lt}
use Rattle.std.proofs.lemmas.List.{get_or-set_same, get_or-set_other, length-set, append-nil, drop_all, take_all}
use Rattle.std.proofs.lemmas.Bool.{cases_eq, cond-true, cond-false, eq-eqb, ne_eqb}
use Rattle.std.specs.List.{refill}
use Rattle.masks.specs.Bits.{bit}
use Rattle.masks.proofs.Operations.{bit-or, bits_same}
use Rattle.charts.specs.Lines.{ends_at}
use Rattle.charts.specs.declared.line.Line.{Line}
use Rattle.charts.specs.declared.line.Line.TheVariants.{End}

-- Every number fits as many bits as it says,
below_power : (n : ℕ) → n < 2 ^ n
below_power zero = omega arith
below_power (suc n) = omega (arith, below_power n, pow-suc 2 n)

-- and more.
below_wider : (a n : ℕ) → a ≤ n → a < 2 ^ n
below_wider a n h = let p : 2 ^ a ≤ 2 ^ n = pow_mono h in omega (arith, below_power a)

-- Three answers are joined in either order.
either_assoc : (x y z : Bool) → ((x || y) || z) ≡ (x || (y || z))
either_assoc true y z = refl
either_assoc false y z = refl

-- Three masks are joined in either order.
pub or_assoc : (a b c : ℕ) → bit_or (bit_or a b) c ≡ bit_or a (bit_or b c)
or_assoc a b c =
    let n = a + b + c in
    let fa : a < 2 ^ n = below_wider a n (omega arith) in
    let fb : b < 2 ^ n = below_wider b n (omega arith) in
    let fc : c < 2 ^ n = below_wider c n (omega arith) in
    bits_same n (bit_or (bit_or a b) c) (bit_or a (bit_or b c)) (or_lt n _ _ (or_lt n _ _ fa fb) fc) (or_lt n _ _ fa (or_lt n _ _ fb fc))
    (λ q h.
    bit-or q (bit_or a b) c ∙ ap (λ x. x || bit q c) (bit-or q a b) ∙ either_assoc (bit q a) (bit q b) (bit q c)
    ∙ sym (bit-or q a (bit_or b c) ∙ ap (λ x. bit q a || x) (bit-or q b c)))

-- With the mask of an end line joined in, the masks say the same with the lines to come as before with the line in front.
pub end_joined : (ends : List ℕ) (at mask : ℕ) (line : Line) → at < length ends → line ≡ End at mask → (lines : List Line) (state : ℕ) → bit_or (get_or (set ends at (bit_or (get_or ends at 0) mask)) state 0) (ends_at lines state) ≡ bit_or (get_or ends state 0) (ends_at (line ∷ lines) state)
end_joined ends at mask line h is lines state =
    ⊎_elim
    (λ (e : at ≡ state).
    subst (λ q. bit_or (get_or (set ends at (bit_or (get_or ends at 0) mask)) q 0) (ends_at lines q) ≡ bit_or (get_or ends q 0) (cond (eqb at q) (bit_or mask (ends_at lines q)) (ends_at lines q))) e
    (ap (λ x. bit_or x (ends_at lines at)) (get_or-set_same ends at (bit_or (get_or ends at 0) mask) 0 h)
    ∙ or_assoc (get_or ends at 0) mask (ends_at lines at)
    ∙ ap (bit_or (get_or ends at 0)) (sym (cond-true (eqb at at) (bit_or mask (ends_at lines at)) (ends_at lines at) (eq-eqb at at refl)))))
    (λ (ne : at ≡ state → ⊥).
    ap (λ x. bit_or x (ends_at lines state)) (get_or-set_other ends at state (bit_or (get_or ends at 0) mask) 0 (λ e. ne (sym e)))
    ∙ ap (bit_or (get_or ends state 0)) (sym (cond-false (eqb at state) (bit_or mask (ends_at lines state)) (ends_at lines state) (ne_eqb at state ne))))
    (cases_eq at state)
    ∙ ap (λ l. bit_or (get_or ends state 0) (ends_at (l ∷ lines) state)) (sym is)

-- Joined masks of situations are masks of situations.
pub joined_within : (n : ℕ) (ends : List ℕ) (at mask : ℕ) → at < length ends → mask < 2 ^ n → ((state : ℕ) → get_or ends state 0 < 2 ^ n) → (state : ℕ) → get_or (set ends at (bit_or (get_or ends at 0) mask)) state 0 < 2 ^ n
joined_within n ends at mask h short within state =
    ⊎_elim
    (λ (e : at ≡ state).
    subst (λ q. get_or (set ends at (bit_or (get_or ends at 0) mask)) q 0 < 2 ^ n) e
    (subst (λ x. x < 2 ^ n) (sym (get_or-set_same ends at (bit_or (get_or ends at 0) mask) 0 h)) (or_lt n _ _ (within at) short)))
    (λ (ne : at ≡ state → ⊥).
    subst (λ x. x < 2 ^ n) (sym (get_or-set_other ends at state (bit_or (get_or ends at 0) mask) 0 (λ e. ne (sym e)))) (within state))
    (cases_eq at state)

-- What fills a list in full, as long as it, stands there alone.
refill_same : (xs ws : List ℕ) → length ws ≡ length xs → refill (length xs) xs ws ≡ ws
refill_same xs ws same =
    ap (λ rest. take (length xs) (ws ++ rest)) (drop_all (length ws) xs (omega arith))
    ∙ ap (take (length xs)) (append-nil ws)
    ∙ take_all (length xs) ws (omega arith)

-- What is joined in where the masks are seen as a slice is joined in among them.
pub joined_seen : (ends seen : List ℕ) (at mask : ℕ) → seen ≡ ends → refill (length ends) ends (set seen at (bit_or (get_or seen at 0) mask)) ≡ set ends at (bit_or (get_or ends at 0) mask)
joined_seen ends seen at mask same =
    ap (λ xs. refill (length ends) ends (set xs at (bit_or (get_or xs at 0) mask))) same
    ∙ refill_same ends (set ends at (bit_or (get_or ends at 0) mask)) (length-set ends at (bit_or (get_or ends at 0) mask))
