-- What check answers.
use Rattle.std.specs.Prelude.{cond, List, length, Ok, Err, Result, nat_lt}
use Rattle.runs.specs.Checks as checks
use Rattle.runs.specs.Flows.{FlowMeaning}
use Rattle.runs.specs.Pairs.{Pair}
use Rattle.walk.specs.Judged.{alike}
use Rattle.walk.specs.declared.fault.WalkFault.{WalkFault}
use Rattle.walk.specs.declared.fault.WalkFault.TheVariants.{TableTooLarge, Unlike}
use Rattle.walk.specs.declared.verdict.Finding.{Finding}
use Rattle.walk.specs.declared.verdict.Finding.TheVariants.{Passes, StartMissing, MasksFail, StepFails}

-- A finding, as it is answered.
abbrev pub told : checks.Finding → Finding
told checks.passes = Passes
told checks.start_missing = StartMissing
told (checks.masks_fail i) = MasksFail i
told (checks.step_fails i) = StepFails i

-- The answer of check on a list: its two refusals in their order, and then what is found.
abbrev pub checked : FlowMeaning → FlowMeaning → List Pair → Result Finding WalkFault
checked f g list =
    cond (nat_lt 2048 (length list)) (Err TableTooLarge)
    (cond (alike f g) (Ok (told (checks.finding f.situations f.actions f g list))) (Err Unlike))
