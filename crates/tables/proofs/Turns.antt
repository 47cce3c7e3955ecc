-- Each pass over the nodes tells the masks that it should.
use Rattle.std.proofs.Common.{◌≡◌, ℕ, ◌<◌, ◌≤◌, Bool, true, List, length, get_or, sym}
use Rattle.masks.specs.Bits.{bits_below}
use Rattle.rules.specs.declared.node.Node.{Node}
use Rattle.rules.specs.declared.node.Node.TheVariants.{Empty}
use Rattle.tables.specs.Decoded.{decode, in_front}
use Rattle.tables.specs.Masks.{Tells, action_mask, first_mask, last_mask, next_mask, pass_mask}
use Rattle.tables.specs.Parts.{action_node, first_node, last_node, next_node, pass_node}
use Rattle.tables.proofs.Nodes.{Has, action_node_lem, first_node_lem, last_node_lem, next_node_lem, pass_node_lem}
use Rattle.tables.proofs.Unions.{bits_no}
use Rattle.tables.proofs.Upward.{part_in, part_known, upward}

module _ (nodes : List Node) (masks : List ℕ) (blank : (k : ℕ) → length nodes ≤ k → get_or masks k 0 ≡ 0) where
  -- The mask of each node of the list is what the step tells from the masks of its parts.
  abbrev pub Told : (ℕ → (ℕ → ℕ) → Node → ℕ) → Type 0
  Told step = (k : ℕ) → k < length nodes → get_or masks k 0 ≡ step k (part_in masks k) (get_or nodes k Empty)

  pub pass_told : (n : ℕ) (holds : ℕ → ℕ → Bool) → n ≤ 64 → Told (λ k. pass_node (bits_below (λ s. true) n) (λ t. bits_below (holds t) n)) → Tells (pass_mask n holds) nodes masks
  pass_told n holds most told =
      upward (pass_mask n holds) (sym (bits_no n)) nodes masks (λ k. pass_node (bits_below (λ s. true) n) (λ t. bits_below (holds t) n)) told blank
      (λ k part has. pass_node_lem n holds (in_front k (decode nodes)) part has most)

  pub action_told : (a : ℕ) → Told (λ k. action_node a) → Tells (action_mask a) nodes masks
  action_told a told =
      upward (action_mask a) (sym (bits_no 64)) nodes masks (λ k. action_node a) told blank (λ k part has. action_node_lem a (in_front k (decode nodes)) part has)

  module _ (n : ℕ) (holds : ℕ → ℕ → Bool) (s : ℕ) (is_one : s < n) (pass : List ℕ) (passing : Tells (pass_mask n holds) nodes pass) where
    passes_in_front : (k : ℕ) → Has (pass_mask n holds) (part_in pass k) (in_front k (decode nodes))
    passes_in_front k = part_known (pass_mask n holds) (sym (bits_no n)) nodes pass k (λ p lt. passing p)

    pub first_told : Told (λ k. first_node s (part_in pass k)) → Tells (first_mask holds s) nodes masks
    first_told told =
        upward (first_mask holds s) (sym (bits_no 64)) nodes masks (λ k. first_node s (part_in pass k)) told blank
        (λ k. first_node_lem n holds (in_front k (decode nodes)) (part_in pass k) (passes_in_front k) s is_one)

    pub last_told : Told (λ k. last_node s (part_in pass k)) → Tells (last_mask holds s) nodes masks
    last_told told =
        upward (last_mask holds s) (sym (bits_no 64)) nodes masks (λ k. last_node s (part_in pass k)) told blank
        (λ k. last_node_lem n holds (in_front k (decode nodes)) (part_in pass k) (passes_in_front k) s is_one)

  pub next_told : (holds : ℕ → ℕ → Bool) (s p : ℕ) → p < 64 → (first last : List ℕ) → Tells (first_mask holds s) nodes first → Tells (last_mask holds s) nodes last
      → Told (λ k. next_node p (part_in first k) (part_in last k)) → Tells (next_mask holds s p) nodes masks
  next_told holds s p lt first last firsts lasts told =
      upward (next_mask holds s p) (sym (bits_no 64)) nodes masks (λ k. next_node p (part_in first k) (part_in last k)) told blank
      (λ k. next_node_lem holds (in_front k (decode nodes)) s p lt (part_in first k) (part_in last k)
      (part_known (first_mask holds s) (sym (bits_no 64)) nodes first k (λ q _. firsts q)) (part_known (last_mask holds s) (sym (bits_no 64)) nodes last k (λ q _. lasts q)))
