-- The root's mask, with the start where the root passes.
use Rattle.std.proofs.Common.{◌≡◌, Bool, true, false, cond, refl, ap, ◌∙◌}
use mir.Val.{bool_byte}
use Rattle.masks.specs.Bits.{bit}
use Rattle.tables.proofs.Roots.{end_is}
use Rattle.places.proofs.passing.Passing.ends_in.Goals as goal

-- A yes or no as a number.
as_number : (b : Bool) → bool_byte b ≡ cond b 1 0
as_number true = refl
as_number false = refl

pub returns : goal.returns
returns c =
    let nodes = c.args.self.now.rule.nodes.now in
    let start : c.from-start.result ≡ cond (bit c.args.s c.at_root.result) 1 0 = c.from-start.ensures ∙ as_number c.has.result ∙ ap (λ b. cond b 1 0) c.has.ensures.bit in
    record {
      ended = λ n holds within passing.
          end_is holds c.args.s nodes n c.args.self.now.pass.items c.last_masks.result.items c.at_root.result c.at_root-2.result c.from-start.result within passing
          (c.last_masks.ensures.ended n holds within passing) c.at_root.ensures.of_last c.at_root-2.ensures.of_last start;
    }
