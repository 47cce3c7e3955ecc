-- The tables' entries, from the masks at the root.
use Rattle.std.proofs.Common.{◌≡◌, ℕ, ◌-◌, ◌<◌, Bool, cond, eqb, List, length, get_or, ap, ◌∙◌, ap₂}
use lib.Bits.{bit_or}
use Rattle.masks.specs.Bits.{bit}
use Rattle.masks.proofs.Bits.{bit_of_bits}
use Rattle.kat.specs.Places.{passes}
use Rattle.kat.specs.Terms.{Term}
use Rattle.rules.specs.declared.node.Node.{Node}
use Rattle.tables.specs.Masks.{Tells, end_mask, first_mask, follow_mask, last_mask, next_mask, pass_mask, term_of}
use Rattle.tables.proofs.Nodes.{end_root, follow_root}

module _ (holds : ℕ → ℕ → Bool) (s : ℕ) (nodes : List Node) where
  -- What the masks say of the root is said of the rule's term.
  at_root : (mask : Term → ℕ) (masks : List ℕ) (one : ℕ) → Tells mask nodes masks → one ≡ get_or masks (length nodes - 1) 0 → one ≡ mask (term_of nodes)
  at_root mask masks one tells is = is ∙ tells (length nodes - 1)

  -- The places behind which the rule may end.
  pub end_is : (n : ℕ) (pass last : List ℕ) (passed ended start : ℕ) → s < n → Tells (pass_mask n holds) nodes pass → Tells (last_mask holds s) nodes last
      → passed ≡ get_or pass (length nodes - 1) 0 → ended ≡ get_or last (length nodes - 1) 0 → start ≡ cond (bit s passed) 1 0 → bit_or start ended ≡ end_mask holds s (term_of nodes)
  end_is n pass last passed ended start within passing lasts is-passed is-ended is =
      ap₂ bit_or
      (is ∙ ap (λ b. cond b 1 0) (ap (bit s) (at_root (pass_mask n holds) pass passed passing is-passed) ∙ bit_of_bits (passes holds (term_of nodes)) n s within))
      (at_root (last_mask holds s) last ended lasts is-ended)
      ∙ end_root holds s (term_of nodes)

  -- The places that may come next.
  pub follow_is : (p : ℕ) (first next : List ℕ) (begun gone : ℕ) → Tells (first_mask holds s) nodes first → Tells (next_mask holds s p) nodes next
      → begun ≡ cond (eqb 0 p) (get_or first (length nodes - 1) 0) 0 → gone ≡ get_or next (length nodes - 1) 0 → bit_or begun gone ≡ follow_mask holds s p (term_of nodes)
  follow_is p first next begun gone firsts nexts is is-gone =
      ap₂ bit_or (is ∙ ap (λ x. cond (eqb 0 p) x 0) (firsts (length nodes - 1))) (at_root (next_mask holds s p) next gone nexts is-gone)
      ∙ follow_root holds s (term_of nodes) p
