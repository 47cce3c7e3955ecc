-- What judge answers, and what the table and the run buffer hold afterwards.
use Rattle.std.specs.Prelude.{ℕ, ◌+◌, ◌*◌, Bool, cond, ◌&&◌, List, ◌++◌, length, drop, Ok, Err, Result, ◌==◌, nat_lt}
use Rattle.runs.specs.Flows.{FlowMeaning, allows}
use Rattle.runs.specs.Runs.{Run, actions_of}
use Rattle.runs.specs.Tracing.{shown_run, written}
use Rattle.runs.specs.Walks.{Ending, different, equal, full, list_after, walk}
use Rattle.walk.specs.Records.{table_of, zero_table}
use Rattle.walk.specs.declared.fault.WalkFault.{WalkFault}
use Rattle.walk.specs.declared.fault.WalkFault.TheVariants.{BufferTooShort, TableFull, TableTooLarge, Unlike}
use Rattle.walk.specs.declared.record.PairRecord.{PairRecord}
use Rattle.walk.specs.declared.verdict.Side.{Side}
use Rattle.walk.specs.declared.verdict.Side.TheVariants.{Left, Right}
use Rattle.walk.specs.declared.verdict.Verdict.{Verdict}
use Rattle.walk.specs.declared.verdict.Verdict.TheVariants.{Equal, Different}

-- Two flows are alike where they have as many situations and as many actions.
abbrev pub alike : FlowMeaning → FlowMeaning → Bool
alike f g = f.situations == g.situations && f.actions == g.actions

-- The walk of two flows that are alike, and the run that it shows where it ended at a pair.
abbrev pub walk_of : FlowMeaning → FlowMeaning → ℕ → Ending
walk_of f g room = walk f.situations f.actions f g room

abbrev pub run_at : FlowMeaning → FlowMeaning → ℕ → Run
run_at f g i = shown_run f.situations f.actions f g i

-- The bytes of a run of n actions.
abbrev pub bytes_of : ℕ → ℕ
bytes_of n = 2 * n + 1

-- The side that allows a run on which the two part.
abbrev pub side_of : FlowMeaning → Run → Side
side_of f run = cond (allows f run) Left Right

-- What the ending of a walk is answered, with a run buffer of so many bytes.
abbrev pub answer_of : FlowMeaning → FlowMeaning → ℕ → Ending → Result Verdict WalkFault
answer_of f g buffer (equal count) = Ok (Equal count)
answer_of f g buffer (different i) =
    cond (nat_lt buffer (bytes_of (actions_of (run_at f g i)))) (Err (BufferTooShort (bytes_of (actions_of (run_at f g i)))))
    (Ok (Different (actions_of (run_at f g i)) (side_of f (run_at f g i))))
answer_of f g buffer full = Err TableFull

-- The answer of judge, with a table of so many records: its checks in their order, and then the walk.
abbrev pub judged : FlowMeaning → FlowMeaning → ℕ → ℕ → Result Verdict WalkFault
judged f g room buffer = cond (nat_lt 2048 room) (Err TableTooLarge) (cond (alike f g) (answer_of f g buffer (walk_of f g room)) (Err Unlike))

-- The table afterwards: what the walk listed where it ended equal, and else zeros.
abbrev pub table_by : FlowMeaning → FlowMeaning → ℕ → Ending → List PairRecord
table_by f g room (equal count) = table_of room (list_after f.situations f.actions f g count)
table_by f g room (different i) = zero_table room
table_by f g room full = zero_table room

-- A table that is too large stays as it was.
abbrev pub table_after : FlowMeaning → FlowMeaning → List PairRecord → List PairRecord
table_after f g table =
    cond (nat_lt 2048 (length table)) table (cond (alike f g) (table_by f g (length table) (walk_of f g (length table))) (zero_table (length table)))

-- The run buffer afterwards: where a run is shown it starts with the run's bytes, and else it is as it was.
abbrev pub buffer_by : FlowMeaning → FlowMeaning → List ℕ → Ending → List ℕ
buffer_by f g buffer (equal count) = buffer
buffer_by f g buffer (different i) =
    cond (nat_lt (length buffer) (bytes_of (actions_of (run_at f g i)))) buffer
    (written (run_at f g i) ++ drop (bytes_of (actions_of (run_at f g i))) buffer)
buffer_by f g buffer full = buffer

abbrev pub buffer_after : FlowMeaning → FlowMeaning → ℕ → List ℕ → List ℕ
buffer_after f g room buffer = cond (nat_lt 2048 room) buffer (cond (alike f g) (buffer_by f g buffer (walk_of f g room)) buffer)
