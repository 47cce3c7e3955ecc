-- The work is done by `compare`; what its answer says of runs are the theorems on the walk.
use Rattle.walk.proofs.Promised.{judged_says, list_convinces}
use Rattle.walk.proofs.judging.judge.Goals as goal

pub returns : goal.returns
returns g c =
    let left = g.F.Flow.meaning c.args.left.now in
    let right = g.G.Flow.meaning c.args.right.now in
    let told = c.compare.ensures in
    let says = judged_says left right (g.F.Flow.lawful c.args.left.now) (g.G.Flow.lawful c.args.right.now) c.args.table.now _ c.args.run.now _ c.compare.result
    told.answer told.table_afterwards told.run_afterwards in
    record {
      answer = told.answer;
      table_afterwards = told.table_afterwards;
      run_afterwards = told.run_afterwards;
      equal_means_same_runs = says.if_equal;
      different_shows_a_shortest_run = says.if_different;
      full_means_more_meeting_pairs = says.if_full;
      a_list_convinces_exactly_when_runs_agree = list_convinces left right (g.F.Flow.lawful c.args.left.now) (g.G.Flow.lawful c.args.right.now);
    }
