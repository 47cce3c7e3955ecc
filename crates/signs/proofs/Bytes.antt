-- The kinds of bytes, and the sign that begins with a byte of each kind.
use Rattle.std.proofs.Common.{◌≡◌, ℕ, ◌+◌, true, false, eqb, List, [], ◌∷◌, Ok, Err, refl, inl, inr, arith}
use Rattle.std.proofs.lemmas.Bool.{or_cases, eqb-true}
use Rattle.std.proofs.lemmas.Bool.Decides.{nat_tests}
use Rattle.signs.specs.declared.fault.SignFault.TheVariants.{StrayByte}
use Rattle.signs.specs.Names.{letter, inner}
use Rattle.signs.specs.Runs.{blank, inner_run}
use Rattle.signs.specs.Signs.{Mark, opening, closing, negating, repeating, following, choosing, bytes_of, stands_at, behind, sign_at, word_at}
use Rattle.signs.specs.Spelling.{well_made, as_long_as_can_be}
use Rattle.signs.specs.FirstFault.{single}

pub letter_inner : (b : ℕ) → letter b ≡ true → inner b ≡ true
letter_inner b h = grind (arith, nat_tests)

pub inner_no_blank : (b : ℕ) → inner b ≡ true → blank b ≡ false
inner_no_blank b h = grind (arith, nat_tests)

pub blank_no_inner : (b : ℕ) → blank b ≡ true → inner b ≡ false
blank_no_inner b h = grind (arith, nat_tests)

pub single_no_inner : (b : ℕ) → single b ≡ true → inner b ≡ false
single_no_inner b h = grind (arith, nat_tests)

-- a sign that is one byte by itself
pub record Lone (place b : ℕ) (bs : List ℕ) (m : Mark) : Type 0 where
  pub is : sign_at place b bs ≡ Ok m
  pub stands : stands_at m ≡ place
  pub bytes : bytes_of m ≡ b ∷ []
  pub made : well_made m ≡ true
  pub whole : (rest : List ℕ) → as_long_as_can_be m rest ≡ true

pub lone_behind : (place b : ℕ) (bs : List ℕ) (m : Mark) → Lone place b bs m → behind m ≡ place + 1
lone_behind place b bs m lone = rw (lone.stands, lone.bytes)

pub sign_single : (place b : ℕ) (bs : List ℕ) → single b ≡ true → (m : Mark) × Lone place b bs m
sign_single place b bs h =
    elim (or_cases (eqb b 40) _ h) [
      | inl e ↦ rw (eqb-true b 40 e) (opening place, record { is = refl; stands = refl; bytes = refl; made = refl; whole = λ _. refl })
      | inr h ↦ elim (or_cases (eqb b 41) _ h) [
        | inl e ↦ rw (eqb-true b 41 e) (closing place, record { is = refl; stands = refl; bytes = refl; made = refl; whole = λ _. refl })
        | inr h ↦ elim (or_cases (eqb b 33) _ h) [
          | inl e ↦ rw (eqb-true b 33 e) (negating place, record { is = refl; stands = refl; bytes = refl; made = refl; whole = λ _. refl })
          | inr h ↦ elim (or_cases (eqb b 42) _ h) [
            | inl e ↦ rw (eqb-true b 42 e) (repeating place, record { is = refl; stands = refl; bytes = refl; made = refl; whole = λ _. refl })
            | inr h ↦ elim (or_cases (eqb b 59) _ h) [
              | inl e ↦ rw (eqb-true b 59 e) (following place, record { is = refl; stands = refl; bytes = refl; made = refl; whole = λ _. refl })
              | inr e ↦ rw (eqb-true b 124 e) (choosing place, record { is = refl; stands = refl; bytes = refl; made = refl; whole = λ _. refl })
            ]
          ]
        ]
      ]
    ]

pub sign_letter : (place b : ℕ) (bs : List ℕ) → letter b ≡ true → sign_at place b bs ≡ word_at place (b ∷ inner_run bs)
sign_letter place b bs h = grind (arith, nat_tests)

pub sign_stray : (place b : ℕ) (bs : List ℕ) → single b ≡ false → letter b ≡ false → sign_at place b bs ≡ Err (StrayByte place)
sign_stray place b bs h l = grind (arith, nat_tests)
