-- The root's masks say what may come next.
use Rattle.std.proofs.Common.{◌≡◌, ◌-◌, cond, eqb, length, get_or, sym, ap, ◌∙◌, arith}
use Rattle.std.proofs.lemmas.Bool.{eq-eqb, ne_eqb}
use Rattle.tables.proofs.Roots.{follow_is}
use Rattle.places.proofs.nodes.RuleNodes.following.Goals as goal
use Rattle.places.proofs.nodes.RuleNodes.following.Goals.{then-p-eq0, else-p-eq0}

pub returns : goal.returns
returns c =
    let nodes = c.args.self.now.nodes.now in
    let p = c.args.p in
    let first = c.args.edges.now.first.items in
    let root = length nodes - 1 in
    let begun : c.if-p-eq0.begun ≡ cond (eqb 0 p) (get_or first root 0) 0 =
    elim c.if-p-eq0.branch [
      | then-p-eq0 w ↦ w.begun-is ∙ w.at_root-begun.ensures.of_last ∙ ap (λ b. cond b (get_or first root 0) 0) (sym (eq-eqb 0 p (omega (arith, w.if-p-eq0.true))))
      | else-p-eq0 w ↦ w.begun-is ∙ ap (λ b. cond b (get_or first root 0) 0) (sym (ne_eqb 0 p (λ e. absurd (w.if-p-eq0.false (sym e)))))
    ] in
    record {
      followed = λ holds s firsts lasts.
          follow_is holds s nodes p first c.next_masks.result.items c.if-p-eq0.begun _ firsts (c.next_masks.ensures.gone_on holds s firsts lasts) begun c.at_root.ensures.of_last;
    }
