-- What a value shows, once it is written to the bytes of a buffer. Serves the call that shows a value.
use Rattle.std.proofs.Common.{◌≡◌, ℕ, List, ◌++◌, Option, Some, None, Ok, Err, Result, IfSome, OnOk, subst, true≢false}
use Rattle.std.specs.Result.{is_ok}
use Rattle.std.specs.Fmt.{WritesText}
use Rattle.std.proofs.lemmas.Fmt.{contents_after_writes}
use Rattle.texts.specs.Adds.{Adds}
use Rattle.texts.specs.declared.writer.Writer.{Writer}

-- Writing a text puts it behind what was there.
abbrev pub puts_behind : Writer → List ℕ → Writer → Type 0
puts_behind before text after = after.bytes.items ≡ before.bytes.items ++ text

-- All that is written of a value stands behind what was there.
pub shown_behind : (shown : Option (List ℕ)) (before after : Writer) → WritesText puts_behind before shown after → IfSome shown (λ text. Adds text before.bytes.items after.bytes.items)
shown_behind None before after h = tt
shown_behind (Some text) before after h = record { is = contents_after_writes puts_behind (λ writer. writer.bytes.items) (λ w l v t. t) before text after h }

-- So it does where the writing is told to have gone well.
pub told_behind : {E F : Type 0} (written : Result (Unit {0}) E) (told : Result (Unit {0}) F) (shown : Option (List ℕ)) (held : List ℕ) (before after : Writer) → before.bytes.items ≡ held → is_ok told ≡ is_ok written → OnOk written (WritesText puts_behind before shown after) → OnOk told (IfSome shown (λ text. Adds text held after.bytes.items))
told_behind written (Err x) shown held before after e v h = tt
told_behind (Err x) (Ok y) shown held before after e v h = absurd (true≢false v)
told_behind (Ok x) (Ok y) shown held before after e v h = subst (λ l. IfSome shown (λ text. Adds text l after.bytes.items)) e (shown_behind shown before after h)
