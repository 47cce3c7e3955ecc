-- Keys that are the same exactly when their marks are equal keep the laws of `Eq`. Serves every kind of key.
use Rattle.std.specs.Prelude.{◌≡◌, ℕ, Bool, Decides, nat_eq, refl}
use Rattle.std.specs.Cmp.{IsEquivalence}
use Rattle.std.specs.Bool.{one_answer}
use Rattle.std.proofs.Common.{sym, ◌∙◌}
use Rattle.std.proofs.lemmas.Bool.Decides.{Decides-eqb}

pub by_mark : {K X : Type 0} (mark : K → X) (same : K → K → Bool) → ((x y : K) → Decides (same x y) (mark x ≡ mark y)) → IsEquivalence same
by_mark mark same tells = record {
  refl = λ x. (tells x x).1 refl;
  symm = λ x y. one_answer (same x y) (same y x) (tells x y) (λ e. sym ((tells y x).0 e), λ e. (tells y x).1 (sym e));
  congr = λ x y z h. one_answer (same x z) (same y z) (tells x z) (λ e. (tells x y).0 h ∙ (tells y z).0 e, λ e. (tells y z).1 (sym ((tells x y).0 h) ∙ e));
}

-- keys that are the same exactly when a number of theirs is
pub by_number : {K : Type 0} (mark : K → ℕ) → IsEquivalence (λ (x y : K). nat_eq (mark x) (mark y))
by_number mark = by_mark mark (λ x y. nat_eq (mark x) (mark y)) (λ x y. Decides-eqb (mark x) (mark y))
