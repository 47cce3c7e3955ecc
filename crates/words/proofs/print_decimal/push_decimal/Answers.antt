-- The digits are read back as the number, and no other bytes are.
use Rattle.words.proofs.DecimalLaws.{digits_of, only}
use Rattle.words.proofs.print_decimal.push_decimal.Goals as goal

pub returns-clause-the_digits_are_read_back : goal.returns-clause-the_digits_are_read_back
returns-clause-the_digits_are_read_back c = digits_of c.args.n c.ranges.n.fits

pub returns-clause-no_other_digits_are : goal.returns-clause-no_other_digits_are
returns-clause-no_other_digits_are c = only c.args.n
