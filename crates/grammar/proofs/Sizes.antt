-- Each sign other than a bracket makes one part of the term that is derived.
use Rattle.std.proofs.Common.{◌≡◌, ℕ, List, [], ◌∷◌, refl, arith}
use Rattle.signs.specs.Signs.{Mark, choosing, closing, following, repeating}
use Rattle.kat.specs.Terms.{Term, size}
use Rattle.grammar.specs.Derivations.{Choice, one_chain, more_chains, Chain, one_step, more_steps, Step, unit, repeated, plain_signs}
use Rattle.grammar.specs.Derivations.{Unit', a_test, an_action, the_skip, the_stop, negated, in_brackets}
use Rattle.grammar.specs.Theorems.{Meaning, SizeCountsSigns}
use Rattle.grammar.proofs.Signs.{plain_joined}

-- What is derived has as many parts as signs other than brackets: by induction on the derivation.
mutual
  choice_size : {means : Meaning} {depth before after : ℕ} {signs : List Mark} {e : Term}
      → Choice means depth before signs e after → size e ≡ plain_signs signs
  choice_size (one_chain c) = chain_size c
  choice_size (more_chains {xs = xs} {ys = ys} place c d) = omega (arith, chain_size c, choice_size d, plain_joined xs (choosing place ∷ ys))

  chain_size : {means : Meaning} {depth before after : ℕ} {signs : List Mark} {e : Term}
      → Chain means depth before signs e after → size e ≡ plain_signs signs
  chain_size (one_step s) = step_size s
  chain_size (more_steps {xs = xs} {ys = ys} place s c) = omega (arith, step_size s, chain_size c, plain_joined xs (following place ∷ ys))

  step_size : {means : Meaning} {depth before after : ℕ} {signs : List Mark} {e : Term}
      → Step means depth before signs e after → size e ≡ plain_signs signs
  step_size (unit u) = unit_size u
  step_size (repeated {signs = xs} place s) = omega (arith, step_size s, plain_joined xs (repeating place ∷ []))

  unit_size : {means : Meaning} {depth before after : ℕ} {signs : List Mark} {e : Term}
      → Unit' means depth before signs e after → size e ≡ plain_signs signs
  unit_size (a_test name place t e) = refl
  unit_size (an_action name place a e) = refl
  unit_size (the_skip place) = refl
  unit_size (the_stop place) = refl
  unit_size (negated place u t) = omega (arith, unit_size u)
  unit_size (in_brackets {signs = xs} p q c) = omega (arith, choice_size c, plain_joined xs (closing q ∷ []))

-- A rule is a choice.
pub size_counts_signs : SizeCountsSigns
size_counts_signs means signs e rule = choice_size rule.derived
