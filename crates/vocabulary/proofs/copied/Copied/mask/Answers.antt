-- A mask in range is as the copy's invariant says, and one out of range is 0; its bits follow from what it is.
use Rattle.std.proofs.Common.{get_or, ap, ◌∙◌, arith}
use Rattle.vocabulary.specs.Copies.{copied_meaning, copied_lawful}
use Rattle.masks.specs.Bits.{bit}
use Rattle.vocabulary.proofs.Masks.{mask_bit, mask_written, mask_outside}
use Rattle.vocabulary.proofs.copied.Copied.mask.Goals as goal

pub returns-then-test-self : goal.returns-then-test-self
returns-then-test-self c =
    let x = c.args.self.now in
    let e = ap (λ t. get_or x.masks t 0) c.from.ensures ∙ mask_written x.size.situations x.size.tests x.masks c.args.test (omega arith) (x.within c.args.test (omega arith)) in
    record {
      mask = e;
      each_bit_says_where_the_test_holds = λ s. ap (bit s) e ∙ mask_bit (copied_meaning x) (copied_lawful x) c.args.test s;
    }

pub returns-else-test-self-clause-mask : goal.returns-else-test-self-clause-mask
returns-else-test-self-clause-mask c = mask_outside (copied_meaning c.args.self.now) (copied_lawful c.args.self.now) c.args.test (omega arith)
