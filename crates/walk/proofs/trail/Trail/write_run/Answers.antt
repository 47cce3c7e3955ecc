use Rattle.std.proofs.Common.{sym, ◌∙◌, rules, arith}
use Rattle.std.proofs.lemmas.List.{length-reverse, length-set}
use Rattle.walk.specs.Traced.{move_to, moves_to}
use Rattle.walk.proofs.Backward.{write_all, write_more, write_none}
use Rattle.walk.proofs.trail.Trail.write_run.Goals as goal

pub loop-turn-init : goal.loop-turn-init
loop-turn-init c = record {
  first = search rules;
  writing = write_none {actions = c.args.actions} (search rules) (search rules) (c.requires.counted ∙ sym (length-reverse (moves_to c.args.self.table.now c.args.self.at))) (simp length-set (omega (arith, c.requires.fits)));
}

pub loop-turn-preserved : goal.loop-turn-preserved
loop-turn-preserved c =
    let s = c.in-Some.ensures.steps in
    record { first = search rules; writing = write_more (move_to c.in-Some.met) c.loop-turn.invariant.writing s.1 s.0.1.1 s.0.1.2 }

pub returns : goal.returns
returns c = record {
  writes = write_all (moves_to c.args.self.table.now c.args.self.at) c.args.run.now c.args.actions c.args.last c.loop-turn.invariant.writing (grind arith) c.requires.counted c.requires.fits;
}
