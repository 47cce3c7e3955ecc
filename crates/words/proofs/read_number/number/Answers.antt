-- A digit goes on with the number, another byte or a value past 64 bits ends it.
use Rattle.std.proofs.Common.{◌+◌, ◌-◌, ◌*◌, ◌^◌, ◌≤◌, get_or, sym, ◌∙◌, arith}
use Rattle.words.proofs.NumberLaws.{large}
use Rattle.words.proofs.read_number.number.Goals as goal

pub returns-in_err-checked_mul : goal.returns-in_err-checked_mul
returns-in_err-checked_mul c =
    let past : 2 ^ 64 ≤ c.loop-b.value * 10 + (get_or c.args.word.now c.loop-b.b-index 0 - 48) =
    omega (arith, c.in_err-checked_mul.ensures) in
    c.from_residual.ensures
    ∙ large _ _ _ c.if-is_empty.ensures c.loop-b.invariant.0 c.loop-b-test.true (sym c.if-not-is_ascii_digit.ensures.value) past

pub returns-in_err-value : goal.returns-in_err-value
returns-in_err-value c =
    let past : 2 ^ 64 ≤ c.loop-b.value * 10 + (get_or c.args.word.now c.loop-b.b-index 0 - 48) =
    omega (arith, c.in_ok-checked_mul.ensures, c.in_err-value.ensures, c.from-digit.ensures) in
    c.from_residual-in_err-value.ensures
    ∙ large _ _ _ c.if-is_empty.ensures c.loop-b.invariant.0 c.loop-b-test.true (sym c.if-not-is_ascii_digit.ensures.value) past
