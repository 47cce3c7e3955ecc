-- Each test and each action is still found when a free name was added.
use Rattle.sheet.specs.Held.{names_of}
use Rattle.sheet.specs.Spelling.{bytes_of}
use Rattle.sheet.proofs.Additions.{found_after_action}
use Rattle.sheet.proofs.names.Names.add_action.Goals as goal

pub invariant_of-self : goal.invariant_of-self
invariant_of-self c =
    let names = c.args.self.now in
    let kept = found_after_action (names_of names) (bytes_of c.in_ok-name.name) c.args.bytes.now c.add.result _ c.in_ok-name.ensures c.add.ensures.after names.each_test_found names.each_action_found in
    record { each_test_found = kept.0; each_action_found = kept.1 }
