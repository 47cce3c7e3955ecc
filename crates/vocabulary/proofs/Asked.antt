-- A question within the ranges.
use Rattle.std.proofs.Common.{◌≡◌, ℕ, ◌<◌, Bool, ◌&&◌, ltb, ap, ◌∙◌}
use Rattle.std.proofs.lemmas.Bool.{lt-ltb}
use Rattle.vocabulary.specs.Meaning.{asked}

-- It is answered by what `says` says.
pub asked_inside : (tests situations : ℕ) (says : ℕ → ℕ → Bool) (t s : ℕ) → t < tests → s < situations → asked tests situations says t s ≡ says t s
asked_inside tests situations says t s h k =
    ap (λ b. b && (ltb s situations && says t s)) (lt-ltb t tests h) ∙ ap (λ b. b && says t s) (lt-ltb s situations k)
