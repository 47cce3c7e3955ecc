-- The run that is shown, read off the table: its moves, its last situation and the side that allows it.
use Rattle.std.proofs.Common.{◌≡◌, ℕ, ◌-◌, ◌^◌, ◌<◌, ◌≤◌, true, List, map, length, get_or, sym, ap, ◌∙◌, subst, arith, length-append}
use lib.Bits.{bit_xor}
use lib.Count.{count_trailing_zeros}
use lib.ListN.{length-replicate, get_or-append}
use Rattle.std.proofs.lemmas.List.{get_or-map, length-map}
use Rattle.masks.specs.Bits.{bit}
use Rattle.runs.specs.Flows.{FlowMeaning, Lawful, allows}
use Rattle.runs.specs.Tracing.{lowest_apart}
use Rattle.runs.specs.Walks.{Listed, at, different, list_after, no_listed}
use Rattle.runs.proofs.Endings.{Said, ending_says}
use Rattle.runs.proofs.Entries.{met_earlier}
use Rattle.runs.proofs.Pairs.{masks_differ}
use Rattle.runs.proofs.Sides.{left_allows}
use Rattle.runs.proofs.Tracebacks.{Earlier, same_entries}
use Rattle.runs.proofs.Trailing.{lowest_in_64, trailing_lowest}
use Rattle.walk.specs.declared.record.PairRecord.{PairRecord}
use Rattle.walk.specs.Judged.{alike, run_at}
use Rattle.walk.specs.Records.{listed_of, pair_of, record_of, zero_record, zero_table}
use Rattle.walk.specs.Shown.{EndedAt}
use Rattle.walk.specs.Traced.{MetEarlier, moves_to}
use Rattle.walk.proofs.Alike.{alike_situations}

-- The zeros that end `a ^ b` count up to the lowest situation that only one of two masks has, where they differ.
trailing_in_64 : (n a b : ℕ) → n ≤ 64 → a < 2 ^ n → b < 2 ^ n → (a ≡ b → ⊥) → count_trailing_zeros 64 (bit_xor a b) ≡ lowest_apart n a b
trailing_in_64 n a b most fits-a fits-b apart = trailing_lowest 64 a b ∙ lowest_in_64 n a b most fits-a fits-b apart

-- The last situation of the run is the lowest of 64 that only one of two masks has, and the left flow allows the run where its mask has it.
pub record Told (f g : FlowMeaning) (i a b : ℕ) : Type 0 where
  pub last : count_trailing_zeros 64 (bit_xor a b) ≡ (run_at f g i).last
  pub side : bit (count_trailing_zeros 64 (bit_xor a b)) a ≡ allows f (run_at f g i)

module _ (f g : FlowMeaning) (table : List PairRecord) (i : ℕ) (ended : EndedAt f g table i) where
  -- What the walk listed.
  abbrev list : List Listed
  list = list_after f.situations f.actions f g i

  says : Said f.situations f.actions f g (length table) (different i)
  says = ending_says f.situations f.actions f g (length table) (different i) ended.0

  -- Pair i is listed,
  listed : i < length list
  listed = says.0 i (omega arith)

  -- and the list fits in the table,
  fits : length list ≤ length table
  fits =
      omega (arith, ap length ended.1, length-append (map record_of list) (zero_table (length table - length list)), length-map list record_of, length-replicate (length table - length list) zero_record)

  -- where each record has its entry.
  entry_at : (j : ℕ) → j ≤ i → listed_of (get_or table j zero_record) ≡ get_or list j no_listed
  entry_at j h =
      let less : j < length list = omega (arith, listed) in
      let less-record : j < length (map record_of list) = omega (arith, length-map list record_of) in
      ap listed_of
      (ap (λ records. get_or records j zero_record) ended.1
      ∙ get_or-append (map record_of list) (zero_table (length table - length list)) zero_record j less-record
      ∙ get_or-map record_of list j no_listed zero_record less)

  earlier : Earlier list i
  earlier j some h = met_earlier f.situations f.actions f g i (λ k l. says.0 k (omega arith)) j some (omega (arith, listed))

  -- Each record up to i was met from an earlier one.
  pub met : MetEarlier table i
  met = (omega (arith, listed, fits), λ j some h. rw (ap (λ (entry : Listed). entry.from) (entry_at j h)) (earlier j some h))

  -- The moves to record i are those of the run that is shown.
  pub same_moves : moves_to table i ≡ (run_at f g i).moves
  same_moves =
      same_entries list i earlier (map listed_of table)
      (λ j h. get_or-map listed_of table j zero_record no_listed (omega (arith, listed, fits)) ∙ entry_at j h) i i (omega arith)

  -- Record i has the pair at which the walk ended.
  same_pair : pair_of (get_or table i zero_record).pair ≡ at list i
  same_pair = ap (λ (entry : Listed). entry.pair) (entry_at i (omega arith))

  module _ (a b : ℕ) (is-a : a ≡ f.accept (get_or table i zero_record).pair.left) (is-b : b ≡ g.accept (get_or table i zero_record).pair.right)
      (compared : alike f g ≡ true) (left : Lawful f) (right : Lawful g) where
    mask_left : a ≡ f.accept (at list i).left
    mask_left = is-a ∙ ap (λ p. f.accept p.left) same_pair

    mask_right : b ≡ g.accept (at list i).right
    mask_right = is-b ∙ ap (λ p. g.accept p.right) same_pair

    last : count_trailing_zeros 64 (bit_xor a b) ≡ (run_at f g i).last
    last =
        let as_many : f.situations ≡ g.situations = alike_situations f g compared in
        let within : g.accept (at list i).right < 2 ^ f.situations = subst (λ n. g.accept (at list i).right < 2 ^ n) (sym as_many) (right.accepts_situations (at list i).right) in
        (λ j. count_trailing_zeros 64 (bit_xor (mask_left j) (mask_right j)))
        ∙ trailing_in_64 f.situations _ _ left.most (left.accepts_situations (at list i).left) within (masks_differ f g (at list i) says.2)

    pub told : Told f g i a b
    told = record { last = last; side = (λ j. bit (last j) (mask_left j)) ∙ sym (left_allows f.situations f.actions (length table) i f g ended.0) }
