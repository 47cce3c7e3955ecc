-- How the number of a word comes out of its digits, one by one.
use Rattle.std.proofs.Common.{◌≡◌, ℕ, ◌+◌, ◌-◌, ◌*◌, ◌^◌, ◌<◌, ◌≤◌, true, false, eqb, ltb, List, [], ◌∷◌, length, get_or, drop, Some, None, sym, ◌∙◌, arith}
use Rattle.std.proofs.lemmas.List.{at_drop_more}
use Rattle.std.proofs.lemmas.Bool.{eqb-false, lt-ltb, le-ltb, and_right, cond-false, cond-true}
use Rattle.std.specs.Char.{is_ascii_digit}
use Rattle.std.specs.Str.{all_ascii_digits}
use Rattle.words.specs.Number.{value_on, number_on, number_of}

-- the value never falls
value_ge : (n : ℕ) (bs : List ℕ) → n ≤ value_on n bs
value_ge n [] = omega arith
value_ge n (b ∷ bs) = omega (arith, value_ge (n * 10 + (b - 48)) bs)

on_digit : (n b : ℕ) (bs : List ℕ) → is_ascii_digit b ≡ true → number_on n (b ∷ bs) ≡ number_on (n * 10 + (b - 48)) bs
on_digit n b bs e = rw e

on_large : (n : ℕ) (bs : List ℕ) → 2 ^ 64 ≤ n → number_on n bs ≡ None
on_large n bs h =
    let large : 2 ^ 64 ≤ value_on n bs = omega (arith, value_ge n bs) in
    cond-false _ (Some (value_on n bs)) None (and_right (all_ascii_digits bs) (ltb (value_on n bs) (2 ^ 64)) (le-ltb (value_on n bs) (2 ^ 64) large))

-- a turn of the loop over the word's bytes, where those before `i` gave `n`
module _ (word : List ℕ) (n i : ℕ) (full : false ≡ eqb (length word) 0) (inv : number_on n (drop i word) ≡ number_on 0 word) where
  whole : number_on n (drop i word) ≡ number_of word
  whole =
      let some : 0 < length word = omega (arith, eqb-false (length word) 0 (sym full)) in
      inv ∙ sym (cond-true (ltb 0 (length word)) (number_on 0 word) None (lt-ltb 0 (length word) some))

  pub large : i < length word → is_ascii_digit (get_or word i 0) ≡ true → 2 ^ 64 ≤ n * 10 + (get_or word i 0 - 48) → None ≡ number_of word
  large h e l =
      sym (on_large _ (drop (i + 1) word) l) ∙ sym (on_digit n (get_or word i 0) (drop (i + 1) word) e) ∙ sym (at_drop_more (number_on n) word i 0 h) ∙ whole
