-- The two sheets of the worked cases.
use Rattle.std.specs.Prelude.{codes}
use Rattle.sheet.specs.Laid.{LaidOut, begun, with_action_named, with_test_named}
use Rattle.vocabulary.specs.Flags.{flags}

-- An office with one fact, which is up in situation 1 and not in situation 0: test 0 is `locked`, action 0 is `send` and action 1 is `keep`.
abbrev pub office : LaidOut
office = with_action_named (with_action_named (with_test_named (begun (flags 1)) (codes "locked")) (codes "send")) (codes "keep")

-- A plain sheet with no fact, so one situation and no test: action 0 is `a` and action 1 is `b`.
abbrev pub plain : LaidOut
plain = with_action_named (with_action_named (begun (flags 0)) (codes "a")) (codes "b")
