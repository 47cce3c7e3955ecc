-- Each node begins with the places of its parts, by those in front of it that pass.
use Rattle.std.proofs.Common.{◌≡◌, length, get_or, take, arith, rules}
use Rattle.tables.specs.Parts.{first_node}
use Rattle.tables.proofs.Turns.{first_told}
use Rattle.tables.proofs.Upward.{part_in}
use Rattle.places.proofs.Upward.{none_behind, told_at}
use Rattle.places.proofs.passing.Passing.first_masks.Goals as goal

pub returns : goal.returns
returns c =
    let nodes = c.args.self.now.rule.nodes.now in
    let pass = c.args.self.now.pass.items in
    let masks = c.masks.result.items in
    let upward = c.masks.ensures.upward in
    record {
      begun = λ n holds within passing.
          first_told nodes masks (none_behind _ nodes masks upward) n holds c.args.s within pass passing
          (λ k lt.
          let at = upward.made k lt in
          let told = at.told in
          let gave : get_or masks k 0 ≡ first_node c.args.s (λ p. get_or (take (length at.step.front.now) pass) p 0) (λ p. get_or at.step.front.now p 0) at.step.node = search rules in
          told_at (λ i. first_node c.args.s (part_in pass i)) _ nodes masks k at (omega (arith, upward.long)) gave);
    }
