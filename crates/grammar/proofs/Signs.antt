-- Signs in front of what lies ahead, joined and counted.
use Rattle.std.proofs.Common.{◌≡◌, ◌+◌, List, [], ◌∷◌, ◌++◌, length, refl, ap, arith}
use Rattle.signs.specs.Signs.{Mark, named, skipping, stopping, opening, closing, negating, repeating, following, choosing}
use Rattle.grammar.specs.Derivations.{plain_signs}
use Rattle.grammar.specs.Reading.{Ahead, sign, signs_left}
use Rattle.grammar.specs.Theorems.{infront}

pub infront_joined : (xs ys : List Mark) (rest : Ahead) → infront (xs ++ ys) rest ≡ infront xs (infront ys rest)
infront_joined [] ys rest = refl
infront_joined (x ∷ xs) ys rest = ap (sign x) (infront_joined xs ys rest)

-- As many signs lie ahead as stand in front and as lie behind those.
pub infront_left : (xs : List Mark) (rest : Ahead) → signs_left (infront xs rest) ≡ length xs + signs_left rest
infront_left [] rest = omega arith
infront_left (x ∷ xs) rest = omega (arith, infront_left xs rest)

pub plain_joined : (xs ys : List Mark) → plain_signs (xs ++ ys) ≡ plain_signs xs + plain_signs ys
plain_joined [] ys = omega arith
plain_joined (named name place ∷ xs) ys = omega (arith, plain_joined xs ys)
plain_joined (skipping place ∷ xs) ys = omega (arith, plain_joined xs ys)
plain_joined (stopping place ∷ xs) ys = omega (arith, plain_joined xs ys)
plain_joined (opening place ∷ xs) ys = plain_joined xs ys
plain_joined (closing place ∷ xs) ys = plain_joined xs ys
plain_joined (negating place ∷ xs) ys = omega (arith, plain_joined xs ys)
plain_joined (repeating place ∷ xs) ys = omega (arith, plain_joined xs ys)
plain_joined (following place ∷ xs) ys = omega (arith, plain_joined xs ys)
plain_joined (choosing place ∷ xs) ys = omega (arith, plain_joined xs ys)
