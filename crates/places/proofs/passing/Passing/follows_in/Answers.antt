-- Each place has what may come next behind it.
use Rattle.std.proofs.Common.{◌≡◌, get_or, rules}
use Rattle.tables.specs.Masks.{WhereKnown, follow_mask, term_of}
use Rattle.places.proofs.passing.Passing.follows_in.Goals as goal

pub returns : goal.returns
returns c =
    let nodes = c.args.self.now.rule.nodes.now in
    record {
      followed = λ n holds within passing p few.
          let firsts = c.first_masks.ensures.begun n holds within passing in
          let lasts = c.last_masks.ensures.ended n holds within passing in
          let filled = c.table_of.ensures.filled p few in
          let gave : WhereKnown nodes c.first_masks.result.items c.last_masks.result.items (λ holds s. get_or c.table_of.result p 0 ≡ follow_mask holds s p (term_of nodes)) = search rules in
          gave holds c.args.s firsts lasts;
    }
