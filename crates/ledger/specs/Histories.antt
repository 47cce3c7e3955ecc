-- Lists of calls: what a book holds after them, and which flows are in it by the calls and their answers alone.
use Rattle.std.specs.Prelude.{ℕ, cond, List, [], ◌∷◌, ◌++◌, Some, None, Option}
use Rattle.std.specs.Str.{bytes_eq}
use Rattle.ledger.specs.Calls.{Answer, Call, chart, compare, compared, file, filed_in, group, in_group, performed, recheck, rechecked, refused, strike, struck}
use Rattle.ledger.specs.Ledgers.{Ledger}
use Rattle.ledger.specs.Sources.{Source, a_chart, a_text}

-- A call with its answer.
pub record Event : Type 0 where
  pub call : Call
  pub answer : Answer

-- What a list of calls comes to, from a book on: the book afterwards, and each call with its answer.
abbrev pub book_after : Ledger → List Call → Ledger
book_after ledger [] = ledger
book_after ledger (call ∷ calls) = book_after (performed ledger call).after calls

abbrev pub events_of : Ledger → List Call → List Event
events_of ledger [] = []
events_of ledger (call ∷ calls) = record { call = call; answer = (performed ledger call).answer } ∷ events_of (performed ledger call).after calls

-- A flow that is in the book: its name, and what it was filed from.
pub record Standing : Type 0 where
  pub name : List ℕ
  pub source : Source

-- The flows without the one of a name.
abbrev pub gone : List Standing → List ℕ → List Standing
gone [] name = []
gone (x ∷ xs) name = cond (bytes_eq x.name name) xs (x ∷ gone xs name)

-- A flow is in the book from a granted file or chart of its name until a granted strike of that name.
abbrev pub filed_by : List Standing → Call → List Standing
filed_by xs (file name text room) = xs ++ (record { name = name; source = a_text text } ∷ [])
filed_by xs (chart name states lines room) = xs ++ (record { name = name; source = a_chart states lines } ∷ [])
filed_by xs (compare left right room buffer) = xs
filed_by xs (recheck left right list) = xs
filed_by xs (group name) = xs
filed_by xs (strike name) = xs

abbrev pub struck_by : List Standing → Call → List Standing
struck_by xs (file name text room) = xs
struck_by xs (chart name states lines room) = xs
struck_by xs (compare left right room buffer) = xs
struck_by xs (recheck left right list) = xs
struck_by xs (group name) = xs
struck_by xs (strike name) = gone xs name

abbrev pub after_event : List Standing → Call → Answer → List Standing
after_event xs call (filed_in number) = filed_by xs call
after_event xs call struck = struck_by xs call
after_event xs call (compared verdict) = xs
after_event xs call (rechecked finding) = xs
after_event xs call (in_group number) = xs
after_event xs call (refused refusal) = xs

abbrev pub standing_after : List Standing → List Event → List Standing
standing_after xs [] = xs
standing_after xs (event ∷ events) = standing_after (after_event xs event.call event.answer) events

-- The flows that are in the book after some events, from its opening on.
abbrev pub standing : List Event → List Standing
standing events = standing_after [] events

-- What a name's flow was filed from, if it is in the book.
abbrev pub source_of : List Standing → List ℕ → Option Source
source_of [] name = None
source_of (x ∷ xs) name = cond (bytes_eq x.name name) (Some x.source) (source_of xs name)
