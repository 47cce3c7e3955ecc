-- The 64 bits shifted down.
use Rattle.std.proofs.Common.{arith}
use Rattle.tables.proofs.Unions.{all_shifted}
use Rattle.places.proofs.passing.all_of.Goals as goal

pub returns : goal.returns
returns c = record { all = all_shifted c.args.situations (omega arith) }
