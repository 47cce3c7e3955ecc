-- A term is read back from the nodes that it was laid out in: what stands in front of a root is seen from there.
use Rattle.std.proofs.Common.{ltb}
use Rattle.std.proofs.lemmas.Bool.{cond-true, lt-ltb}
use Rattle.kat.specs.Terms.{stop}
use Rattle.tables.specs.Decoded.{LaidOutDecodes, in_front}
use Rattle.rules.proofs.Decoding.{laid_out_read}

pub laid_out_decodes : LaidOutDecodes
laid_out_decodes e rest = laid_out_read in_front (λ part place root lt. cond-true (ltb place root) (part place) stop (lt-ltb place root lt)) e rest
