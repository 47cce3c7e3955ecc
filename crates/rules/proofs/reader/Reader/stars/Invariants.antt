-- The step that is read stays the same with each `*`.
use Rattle.std.proofs.Common.{None}
use Rattle.grammar.specs.Reading.{signs_left}
use Rattle.rules.specs.Builders.{Further, part_at}
use Rattle.rules.specs.Readers.{Stays, ahead_by, means_of}
use Rattle.rules.proofs.Stars.{Turned}
use Rattle.rules.proofs.reader.Reader.stars.Given as goal

abbrev pub invariant-loop-next : goal.invariant-loop-next
invariant-loop-next l =
    record {
      stays : Stays l.initial.self l.self;
      further : Further 0 None l.initial.self l.self;
      turned : Turned (means_of l.initial.self.names.now) l.levels (part_at l.initial.part l.initial.self) (part_at l.part l.self);
    }

abbrev pub decreases-loop-next : goal.decreases-loop-next
decreases-loop-next l = signs_left (ahead_by l.self)
