-- Masks are made node by node.
use Rattle.std.proofs.Common.{◌≡◌, ℕ, ◌+◌, ◌<◌, ◌≤◌, List, [], ◌∷◌, ◌++◌, length, get_or, sym, refl, ap, ◌∙◌, subst, ⊎_elim, arith, ap₂, length-append, length-take-le}
use Rattle.std.proofs.lemmas.List.{get_or_append_left, get_or_past, take-append-le}
use Rattle.std.proofs.Math.Seq.{get_or-append_seam, take-append_seam}
use Rattle.std.proofs.lemmas.Bool.{cases_eq}
use Rattle.rules.specs.declared.node.Node.{Node}
use Rattle.rules.specs.declared.node.Node.TheVariants.{Empty}
use Rattle.tables.proofs.Upward.{part_in}
use Rattle.places.specs.Upward.{MadeAt, MadeUpward}
use Rattle.places.specs.declared.step.Step.{Step}

-- The nodes in front of i have their masks.
pub record MadeSofar (gives : Step → ℕ → Type 0) (nodes : List Node) (i : ℕ) (masks : List ℕ) : Type 0 where
  pub long : length masks ≡ i
  pub made : (k : ℕ) → k < i → MadeAt gives nodes masks k

-- Before the first node none has.
pub none_made : (gives : Step → ℕ → Type 0) (nodes : List Node) → MadeSofar gives nodes 0 []
none_made gives nodes = record { long = refl; made = λ k h. absurd (omega arith) }

-- A mask that is put behind the others leaves what was made of the nodes in front of it.
kept_at : (gives : Step → ℕ → Type 0) (nodes : List Node) (masks : List ℕ) (v k : ℕ) → k < length masks → MadeAt gives nodes masks k → MadeAt gives nodes (masks ++ v ∷ []) k
kept_at gives nodes masks v k h at = record {
  step = at.step;
  of_node = at.of_node;
  of_front = at.of_front ∙ sym (take-append-le k masks (v ∷ []) (omega arith));
  told = subst (gives at.step) (sym (get_or_append_left masks (v ∷ []) 0 k h)) at.told;
}

-- The node at i has its mask, too.
pub more_made : (gives : Step → ℕ → Type 0) (nodes : List Node) (i v : ℕ) (masks : List ℕ) (step : Step)
    → MadeSofar gives nodes i masks → step.node ≡ get_or nodes i Empty → step.front.now ≡ masks → gives step v → MadeSofar gives nodes (i + 1) (masks ++ v ∷ [])
more_made gives nodes i v masks step so of_node in_front gave =
    let long = so.long in
    let more : length (masks ++ v ∷ []) ≡ i + 1 = omega (arith, length-append masks (v ∷ [])) in
    let newest : MadeAt gives nodes (masks ++ v ∷ []) (length masks) = record {
      step = step;
      of_node = of_node ∙ ap (λ k. get_or nodes k Empty) (sym long);
      of_front = in_front ∙ sym (take-append_seam masks (v ∷ []));
      told = subst (gives step) (sym (get_or-append_seam masks v [] 0)) gave;
    } in
    record {
      long = more;
      made = λ k lt. ⊎_elim
          (λ (e : k ≡ length masks). subst (MadeAt gives nodes (masks ++ v ∷ [])) (sym e) newest)
          (λ (ne : k ≡ length masks → ⊥). let below : k < i = omega arith in kept_at gives nodes masks v k (omega arith) (so.made k below))
          (cases_eq k (length masks));
    }

-- Behind the nodes there is no mask.
pub none_behind : (gives : Step → ℕ → Type 0) (nodes : List Node) (masks : List ℕ) → MadeUpward gives nodes masks → (k : ℕ) → length nodes ≤ k → get_or masks k 0 ≡ 0
none_behind gives nodes masks upward k le = get_or_past masks k 0 (omega (arith, upward.long))

-- What was told of node k from the masks in front of it, by a step that may look at as many of other masks, was told from the masks of its parts.
pub told_at : (step : ℕ → (ℕ → ℕ) → Node → ℕ) (gives : Step → ℕ → Type 0) (nodes : List Node) (masks : List ℕ) (k : ℕ) (at : MadeAt gives nodes masks k) → k ≤ length masks
    → get_or masks k 0 ≡ step (length at.step.front.now) (λ p. get_or at.step.front.now p 0) at.step.node → get_or masks k 0 ≡ step k (part_in masks k) (get_or nodes k Empty)
told_at step gives nodes masks k at room is =
    let long : length at.step.front.now ≡ k = ap length at.of_front ∙ length-take-le k masks room in
    is ∙ ap₂ (λ i xs. step i (λ p. get_or xs p 0) at.step.node) long at.of_front ∙ ap (step k (part_in masks k)) at.of_node
