-- Each turn adds the bit of one number more.
use Rattle.std.proofs.Common.{◌<◌, ◌^◌, ◌+◌, ◌∙◌, sym, subst, arith}
use Rattle.masks.proofs.Bits.{bits_none, bits_more_yes, bits_more_no, fits_with_bit, fits_without_bit}
use Rattle.masks.proofs.making.mask_where.Goals as goal
use Rattle.masks.proofs.making.mask_where.Goals.{then-yes, else-yes}

pub loop-s-init : goal.loop-s-init
loop-s-init g c = (omega arith, λ f says. bits_none f)

pub loop-s-preserved : goal.loop-s-preserved
loop-s-preserved g c =
    elim c.if-yes.branch [
      | then-yes w ↦ (
        subst (λ m. m < 2 ^ (c.loop-s.s + 1)) (sym w.mask-is) (fits_with_bit c.loop-s.s c.loop-s.mask (omega arith) c.loop-s.invariant.0),
        λ f says. w.mask-is ∙ bits_more_yes f c.loop-s.s c.loop-s.mask (omega arith) (c.loop-s.invariant.1 f says) (says c.loop-s.s (omega arith) _ w.if-yes.ensures),
      )
      | else-yes w ↦ (
        subst (λ m. m < 2 ^ (c.loop-s.s + 1)) (sym w.mask-is) (fits_without_bit c.loop-s.s c.loop-s.mask c.loop-s.invariant.0),
        λ f says. w.mask-is ∙ bits_more_no f c.loop-s.s c.loop-s.mask (c.loop-s.invariant.1 f says) (says c.loop-s.s (omega arith) _ w.if-yes.ensures),
      )
    ]
