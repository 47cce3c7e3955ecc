-- Each node goes on as its parts do, and where they join.
use Rattle.std.proofs.Common.{◌≡◌, length, get_or, take, arith, rules}
use Rattle.tables.specs.Parts.{next_node}
use Rattle.tables.proofs.Turns.{next_told}
use Rattle.tables.proofs.Upward.{part_in}
use Rattle.places.proofs.Upward.{none_behind, told_at}
use Rattle.places.proofs.nodes.RuleNodes.next_masks.Goals as goal

pub returns : goal.returns
returns c =
    let nodes = c.args.self.now.nodes.now in
    let first = c.args.edges.now.first.items in
    let last = c.args.edges.now.last.items in
    let masks = c.masks.result.items in
    let upward = c.masks.ensures.upward in
    record {
      gone_on = λ holds s firsts lasts.
          next_told nodes masks (none_behind _ nodes masks upward) holds s c.args.p c.requires.of_place first last firsts lasts
          (λ k lt.
          let at = upward.made k lt in
          let told = at.told in
          let gave : get_or masks k 0 ≡ next_node c.args.p (λ q. get_or (take (length at.step.front.now) first) q 0) (λ q. get_or (take (length at.step.front.now) last) q 0) (λ q. get_or at.step.front.now q 0) at.step.node = search rules in
          told_at (λ i. next_node c.args.p (part_in first i) (part_in last i)) _ nodes masks k at (omega (arith, upward.long)) gave);
    }
