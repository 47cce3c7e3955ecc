use Rattle.std.proofs.Common.{rules}
use Rattle.sheet.specs.Held.{names_of}
use Rattle.sheet.proofs.Found.{found_under_number}
use Rattle.sheet.proofs.sheet.Sheet.name_action.Goals as goal

pub returns : goal.returns
returns c =
    let after = c.add_action.new.self in
    record {
      answer = search rules;
      after = search rules;
      each_name_is_found_under_its_number = found_under_number (names_of after) after.each_test_found after.each_action_found;
    }
