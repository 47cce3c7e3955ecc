use Rattle.walk.specs.Promises.{AListConvinces}
use Rattle.walk.proofs.Promised.{list_convinces}
use Rattle.walk.proofs.checking.check.Given as given
use Rattle.walk.proofs.checking.check.Goals as goal

convinces : (g : given.Over) (left : g.row.F.Denot) (right : g.row.G.Denot) → AListConvinces (g.F.Flow.meaning left) (g.G.Flow.meaning right)
convinces g left right = list_convinces (g.F.Flow.meaning left) (g.G.Flow.meaning right) (g.F.Flow.lawful left) (g.G.Flow.lawful right)

pub returns-then-list-gt-MOST_PAIRS-clause-a_list_convinces_exactly_when_runs_agree : goal.returns-then-list-gt-MOST_PAIRS-clause-a_list_convinces_exactly_when_runs_agree
returns-then-list-gt-MOST_PAIRS-clause-a_list_convinces_exactly_when_runs_agree g c = convinces g c.args.left.now c.args.right.now

pub returns-in_err-new-clause-a_list_convinces_exactly_when_runs_agree : goal.returns-in_err-new-clause-a_list_convinces_exactly_when_runs_agree
returns-in_err-new-clause-a_list_convinces_exactly_when_runs_agree g c = convinces g c.args.left.now c.args.right.now

pub returns-clause-a_list_convinces_exactly_when_runs_agree : goal.returns-clause-a_list_convinces_exactly_when_runs_agree
returns-clause-a_list_convinces_exactly_when_runs_agree g c = convinces g c.args.left.now c.args.right.now
