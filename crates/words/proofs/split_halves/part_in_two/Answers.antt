-- The last parting is here, or further in front.
use Rattle.std.proofs.Common.{◌-◌, sym, ap, ◌∙◌, arith, rules}
use Rattle.words.proofs.HalfLaws.{begins_at, begins_with, halved, last_here, last_in_front}
use Rattle.words.proofs.split_halves.part_in_two.Goals as goal

pub returns-in-Some : goal.returns-in-Some
returns-in-Some c =
    let bytes = c.args.bytes.now in
    let i = c.loop-i.i - 1 in
    let there = sym (begins_at bytes i) ∙ ap begins_with (sym c.split_at.ensures.back) ∙ c.in-Some.ensures.cases.0 in
    let last = c.loop-i.invariant.1 ∙ last_here bytes c.loop-i.i c.loop-i-test.true there in
    record { parted_at_the_last = halved bytes i last c.split_at.ensures.front c.split_at.ensures.back (search rules) }

pub loop-i-preserved : goal.loop-i-preserved
loop-i-preserved c =
    let bytes = c.args.bytes.now in
    let not_there = sym (begins_at bytes (c.loop-i.i - 1)) ∙ ap begins_with (sym c.split_at.ensures.back) ∙ c.in_default.ensures.cases in
    (omega (arith, c.loop-i.invariant.0), c.loop-i.invariant.1 ∙ last_in_front bytes c.loop-i.i c.loop-i-test.true not_there)
