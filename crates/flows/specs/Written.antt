-- Whether a flow allows what bytes write down.
use Rattle.std.specs.Prelude.{ℕ, Bool, false, List, Some, None, Option}
use Rattle.masks.specs.Bits.{bit}
use Rattle.runs.specs.Runs.{Run, run_of}
use Rattle.runs.specs.Flows.{FlowMeaning, after}

-- The rest of a run, if there is one, leads from a code to a code that accepts its last situation.
abbrev pub allows_rest : FlowMeaning → ℕ → Option Run → Bool
allows_rest flow code None = false
allows_rest flow code (Some rest) = bit rest.last (flow.accept (after flow code rest.moves))

-- The flow allows the run that the bytes write down. Bytes that are no run are not allowed.
abbrev pub allows_written : FlowMeaning → List ℕ → Bool
allows_written flow bytes = allows_rest flow flow.start (run_of bytes)
