-- When a text is granted, in the words of signs and grammar.
use Rattle.std.specs.Prelude.{◌≡◌, ℕ, List, Ok, Option}
use Rattle.sheet.specs.declared.named.Named.{Named}
use Rattle.signs.specs.Signs.{Mark, signs_of}
use Rattle.kat.specs.Terms.{Term}
use Rattle.grammar.specs.Derivations.{Rule}
use Rattle.rules.specs.Rules.{read_text}

-- A text reads to a term exactly when it has signs and they are a rule, this term: they derive it within the limits. No
-- text reads to two terms.
pub record GrantedExactlyForRules (means : List ℕ → Option Named) (text : List ℕ) : Type 0 where
  pub granted_is_a_rule : (e : Term) → read_text means text ≡ Ok e → (signs : List Mark) × (signs_of text ≡ Ok signs) × Rule means signs e
  pub rule_is_granted : (signs : List Mark) (e : Term) → signs_of text ≡ Ok signs → Rule means signs e → read_text means text ≡ Ok e
  pub one_term : (signs : List Mark) (e f : Term) → Rule means signs e → Rule means signs f → e ≡ f
