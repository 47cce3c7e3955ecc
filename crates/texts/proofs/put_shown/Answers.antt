use Rattle.std.proofs.Common.{ap}
use Rattle.texts.proofs.Shown.{told_behind}
use Rattle.texts.proofs.put_shown.Goals as goal

pub returns : goal.returns
returns g c = record { what_it_shows = told_behind c.write-written.result c.map_err.result (g.D.Display.output c.args.value) c.args.out.now.items _ c.write-written.new.self (ap (λ v. v.items) c.replace.ensures.value) c.map_err.ensures.variant c.write-written.ensures.writes }
