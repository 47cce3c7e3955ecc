-- The bytes counted are the blanks from the place on.
use Rattle.std.proofs.Common.{rules, tests, ◌+◌, drop, ap, ◌∙◌}
use Rattle.std.proofs.lemmas.Iterator.{YieldsList-from_slice}
use Rattle.std.proofs.lemmas.Iterator.Consumers.{YieldsList-at, count_from_yields_List}
use Rattle.std.proofs.lemmas.Iterator.Search.{YieldsList-from_take_while}
use Rattle.std.proofs.lemmas.List.Folds.{length-prefix_len}
use Rattle.signs.specs.Runs.{blank}
use Rattle.signs.proofs.runs.after_blanks.Goals as goal

pub returns : goal.returns
returns c =
    ap (λ n. c.args.from + n)
    (count_from_yields_List c.take_while.result c.count.result c.count.ensures.ran
    (YieldsList-from_take_while _ blank (YieldsList-at c.take_while.ensures.source (YieldsList-from_slice (drop c.args.from c.args.text.now) cc)) c.take_while.ensures.closure c.take_while.ensures.done (λ x b q k. search (rules, tests)))
    ∙ length-prefix_len blank (drop c.args.from c.args.text.now))
