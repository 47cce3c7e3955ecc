-- Texts put piece by piece: what is written, with what is still ahead, is the whole. Serves loops that write.
use Rattle.std.proofs.Common.{◌≡◌, ℕ, List, ◌++◌, sym, ap, ◌∙◌}
use Rattle.std.proofs.lemmas.List.{append_assoc}
use Rattle.texts.specs.Adds.{Adds}

-- Behind what was there the whole is to be written; of it the rest is still ahead.
pub record Ahead (whole was rest now' : List ℕ) : Type 0 where
  pub is : was ++ whole ≡ now' ++ rest

-- A piece is put.
pub piece_put : (whole was rest piece more now' next : List ℕ) → Ahead whole was rest now' → rest ≡ piece ++ more → Adds piece now' next → Ahead whole was more next
piece_put whole was rest piece more now' next ahead parts put = record {
  is = ahead.is ∙ ap (λ l. now' ++ l) parts ∙ sym (append_assoc now' piece more) ∙ ap (λ l. l ++ more) (sym put.is);
}

-- Nothing is put, and nothing is wanted.
pub nothing_put : (whole was rest more now' : List ℕ) → Ahead whole was rest now' → rest ≡ more → Ahead whole was more now'
nothing_put whole was rest more now' ahead same = record { is = ahead.is ∙ ap (λ l. now' ++ l) same }
