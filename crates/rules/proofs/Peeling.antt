-- What lies ahead of a place, one sign on: the fuel does not matter where it is enough.
use Rattle.std.proofs.Common.{◌≡◌, ℕ, zero, suc, ◌-◌, ◌<◌, ◌≤◌, List, length, drop, Some, None, Ok, Err, Option, Result, sym, refl, ap, ◌∙◌, arith}
use Rattle.std.proofs.lemmas.List.{drop_all}
use Rattle.signs.specs.Signs.{Mark, behind, next_sign}
use Rattle.signs.specs.Reader.{mark_of, marked, next_of, place_after, place_in, text_of}
use Rattle.signs.specs.declared.fault.SignFault.{SignFault}
use Rattle.signs.specs.declared.reader.SignReader.{SignReader}
use Rattle.signs.specs.declared.sign.Sign.{Sign}
use Rattle.signs.proofs.Steps.{Steps, steps}
use Rattle.grammar.specs.Reading.{faulty, over, sign}
use Rattle.rules.specs.Aheads.{ahead_of, ahead_to, then_ahead}

-- a sign ends behind the place that it was looked for at
moved : (place : ℕ) (bs : List ℕ) (m : Mark) → next_sign place bs ≡ Ok (Some m) → place < behind m
moved place bs m e = let s : Steps place bs (Ok (Some m)) = rw e at (steps place bs) in s.1

-- with no bytes left there is no sign
no_more : (text : List ℕ) (place : ℕ) → length text ≤ place → next_sign place (drop place text) ≡ Ok None
no_more text place h = ap (next_sign place) (drop_all place text h)

pub enough : (end : ℕ) (text : List ℕ) (f g place : ℕ) → length text - place ≤ f → length text - place ≤ g → ahead_to end f text place ≡ ahead_to end g text place
enough end text zero zero place le ge = refl
enough end text zero (suc g) place le ge = sym (ap (then_ahead end (ahead_to end g text)) (no_more text place (omega arith)))
enough end text (suc f) zero place le ge = ap (then_ahead end (ahead_to end f text)) (no_more text place (omega arith))
enough end text (suc f) (suc g) place le ge = go (next_sign place (drop place text)) refl (enough end text f g)
  where
    go : (r : Result (Option Mark) SignFault) → next_sign place (drop place text) ≡ r
        → ((p : ℕ) → length text - p ≤ f → length text - p ≤ g → ahead_to end f text p ≡ ahead_to end g text p)
        → then_ahead end (ahead_to end f text) r ≡ then_ahead end (ahead_to end g text) r
    go (Ok None) e ih = refl
    go (Ok (Some m)) e ih = let on = moved place (drop place text) m e in ap (sign m) (ih (behind m) (omega arith) (omega arith))
    go (Err fault) e ih = refl

-- one sign on
pub peel : (end : ℕ) (text : List ℕ) (place : ℕ) (r : Result (Option Mark) SignFault) → next_sign place (drop place text) ≡ r
    → ahead_to end (length text - place) text place ≡ then_ahead end (λ p. ahead_to end (length text - p) text p) r
peel end text place r e =
    enough end text (length text - place) (suc (length text)) place (omega arith) (omega arith)
    ∙ ap (then_ahead end (ahead_to end (length text) text)) e
    ∙ go r
  where
    go : (r : Result (Option Mark) SignFault) → then_ahead end (ahead_to end (length text) text) r ≡ then_ahead end (λ p. ahead_to end (length text - p) text p) r
    go (Ok None) = refl
    go (Ok (Some m)) = ap (sign m) (enough end text (length text) (length text - behind m) (behind m) (omega arith) (omega arith))
    go (Err fault) = refl

-- what lies ahead of a sign reader before and after it reads
module _ (end : ℕ) (a b : SignReader) (r : Result (Option Sign) SignFault) (keeps : text_of b ≡ text_of a) (gives : marked r ≡ next_of a) (stands : place_in b ≡ place_after (place_in a) (next_of a)) where
  there : (place : ℕ) → place_in b ≡ place → ahead_of end b ≡ ahead_to end (length (text_of a) - place) (text_of a) place
  there place e = ap (λ text. ahead_to end (length text - place_in b) text (place_in b)) keeps ∙ ap (λ p. ahead_to end (length (text_of a) - p) (text_of a) p) e

  pub at_fault : (fault : SignFault) → r ≡ Err fault → ahead_of end a ≡ faulty fault
  at_fault fault e = peel end (text_of a) (place_in a) (Err fault) (sym gives ∙ ap marked e)

  pub at_end : r ≡ Ok None → ahead_of end a ≡ over end
  at_end e = peel end (text_of a) (place_in a) (Ok None) (sym gives ∙ ap marked e)

  pub at_sign : (s : Sign) → r ≡ Ok (Some s) → ahead_of end a ≡ sign (mark_of s) (ahead_of end b)
  at_sign s e =
      let some : next_of a ≡ Ok (Some (mark_of s)) = sym gives ∙ ap marked e in
      let before = peel end (text_of a) (place_in a) (Ok (Some (mark_of s))) some in
      before ∙ ap (sign (mark_of s)) (sym (there (behind (mark_of s)) (stands ∙ ap (place_after (place_in a)) some)))
