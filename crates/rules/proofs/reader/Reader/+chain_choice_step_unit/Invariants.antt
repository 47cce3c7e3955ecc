-- Each sign that is pulled is worth four calls.
use Rattle.std.proofs.Common.{◌+◌, ◌*◌}
use Rattle.grammar.specs.Reading.{signs_left}
use Rattle.rules.specs.Readers.{ahead_by}
use Rattle.rules.proofs.reader.Reader.+chain_choice_step_unit.Given as goal

abbrev pub decreases-choice : goal.decreases-choice
decreases-choice l = signs_left (ahead_by l.self.now) * 4 + 3

abbrev pub decreases-chain : goal.decreases-chain
decreases-chain l = signs_left (ahead_by l.self.now) * 4 + 2

abbrev pub decreases-step : goal.decreases-step
decreases-step l = signs_left (ahead_by l.self.now) * 4 + 1

abbrev pub decreases-unit : goal.decreases-unit
decreases-unit l = signs_left (ahead_by l.self.now) * 4
