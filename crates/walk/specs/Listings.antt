-- What a listing lists, and what a call that puts pairs down makes of it.
use Rattle.std.specs.Prelude.{◌≡◌, ℕ, ◌<◌, List, map, length, take, Result}
use Rattle.std.specs.Result.{MatchResult}
use Rattle.runs.specs.Walks.{Listed}
use Rattle.walk.specs.Records.{listed_of}
use Rattle.walk.specs.declared.fault.WalkFault.{WalkFault}
use Rattle.walk.specs.declared.fault.WalkFault.TheVariants.{TableFull}
use Rattle.walk.specs.declared.listing.Listing.{Listing}

-- What the used records list.
abbrev pub listed : Listing → List Listed
listed listing = map listed_of (take listing.used listing.table.now)

-- How many records the table has.
abbrev pub room : Listing → ℕ
room listing = length listing.table.now

-- What a call tells that is to make this the list: that it is, or that the table is full, since the list is longer.
pub record Grew (list : List Listed) (before after : Listing) (r : Result (Unit {0}) WalkFault) : Type 0 where
  pub same_room : room after ≡ room before
  pub lists : MatchResult r (λ _. listed after ≡ list) (λ fault. (fault ≡ TableFull) × (room before < length list))
