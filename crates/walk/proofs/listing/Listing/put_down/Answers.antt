use Rattle.std.proofs.Common.{◌≡◌, ℕ, ◌+◌, ◌-◌, List, length, drop, set, sym, ap, ◌∙◌, arith}
use Rattle.std.proofs.lemmas.List.{drop-drop, drop-replicate, drop-set-lt, length-set}
use Rattle.walk.specs.declared.record.PairRecord.{PairRecord}
use Rattle.walk.specs.Records.{zero_record, zero_table}
use Rattle.walk.proofs.listing.Listing.put_down.Goals as goal

-- Behind one record more there are zeros too.
blank : (table : List PairRecord) (used : ℕ) (entry : PairRecord) → drop used table ≡ zero_table (length table - used)
    → drop (used + 1) (set table used entry) ≡ zero_table (length (set table used entry) - (used + 1))
blank table used entry h =
    drop-set-lt (used + 1) table used entry (omega arith) ∙ sym (drop-drop 1 used table) ∙ ap (drop 1) h ∙ drop-replicate 1 (length table - used) zero_record
    ∙ ap zero_table (omega (arith, length-set table used entry))

pub invariant_of-self-clause-blank : goal.invariant_of-self-clause-blank
invariant_of-self-clause-blank c = blank c.args.self.now.table.now c.args.self.now.used c.args.entry c.args.self.now.blank
