-- Texts put one behind the other. Serves the functions that write answers.
use Rattle.std.proofs.Common.{ℕ, List, [], ◌++◌, sym, ap, ◌∙◌}
use Rattle.std.proofs.lemmas.List.{append_assoc, append-nil}
use Rattle.texts.specs.Adds.{Adds}

-- A text, and then the rest of it.
pub before : {first rest start next end : List ℕ} → Adds first start next → Adds rest next end → Adds (first ++ rest) start end
before {first} {rest} {start} a b = record { is = b.is ∙ ap (λ l. l ++ rest) a.is ∙ append_assoc start first rest }

-- No text adds nothing.
pub nothing : (was : List ℕ) → Adds [] was was
nothing was = record { is = sym (append-nil was) }
