-- What a chain ends with is joined in the other order.
use Rattle.std.proofs.Common.{cond, ap, sym, ◌∙◌}
use lib.Bits.{or_comm}
use Rattle.masks.specs.Bits.{bit}
use Rattle.tables.specs.Parts.{last_node}
use Rattle.places.proofs.lasts.turned.Goals as goal

pub returns-in-Chain : goal.returns-in-Chain
returns-in-Chain c = record {
  begins_as_it_ends = λ s pass edge.
      or_comm (edge c.in-Chain.b) (cond (bit s (pass c.in-Chain.b)) (edge c.in-Chain.a) 0) ∙ ap (last_node s pass edge) (sym c.in-Chain.is);
}
