-- The first refusal on the way stays.
use Rattle.std.proofs.Common.{rules, Ok, sym, ◌∙◌}
use Rattle.vocabulary.specs.Copies.{copied_meaning}
use Rattle.script.specs.declared.command.Part.TheVariants.{Flags}
use Rattle.desk.proofs.FirstRefusal.{refused_at}
use Rattle.desk.proofs.joining.vocabulary_of.Goals as goal

pub returns-in_err-make : goal.returns-in_err-make
returns-in_err-make c =
    (search rules)
    ∙ sym (refused_at (Ok (copied_meaning c.loop-part.all)) c.in-Some.rest.now c.loop-part.part-index (Flags 0) c.in_err-make.field-0.0 c.loop-part-test.true (search rules))
    ∙ c.loop-part.invariant

pub returns-in_err-all-2 : goal.returns-in_err-all-2
returns-in_err-all-2 c =
    (search rules)
    ∙ sym (refused_at (Ok (copied_meaning c.loop-part.all)) c.in-Some.rest.now c.loop-part.part-index (Flags 0) c.in_err-all-2.field-0.0 c.loop-part-test.true (search rules))
    ∙ c.loop-part.invariant
