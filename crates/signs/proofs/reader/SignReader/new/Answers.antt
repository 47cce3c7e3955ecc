-- Where a text is refused.
use Rattle.signs.proofs.Theorems.{refused_at_the_first_fault}
use Rattle.signs.proofs.reader.SignReader.new.Goals as goal

pub returns-clause-refused_at_the_first_fault : goal.returns-clause-refused_at_the_first_fault
returns-clause-refused_at_the_first_fault c = refused_at_the_first_fault c.args.text.now
