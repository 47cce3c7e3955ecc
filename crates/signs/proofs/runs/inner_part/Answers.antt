-- The bytes counted are those that may stand in a name.
use Rattle.std.proofs.Common.{rules, tests, ◌≡◌, drop, take, ap, ◌∙◌}
use Rattle.std.specs.List.{prefix_len}
use Rattle.std.proofs.lemmas.Iterator.{YieldsList-from_slice}
use Rattle.std.proofs.lemmas.Iterator.Consumers.{YieldsList-at, count_from_yields_List}
use Rattle.std.proofs.lemmas.Iterator.Search.{YieldsList-from_take_while}
use Rattle.std.proofs.lemmas.List.Folds.{length-prefix_len}
use Rattle.signs.specs.Names.{inner}
use Rattle.signs.specs.Runs.{inner_run}
use Rattle.signs.proofs.runs.inner_part.Goals as goal

pub returns : goal.returns
returns c =
    let rest = c.rest_from-rest.result.now in
    let counted : c.count-bytes.result ≡ prefix_len inner rest =
    count_from_yields_List c.take_while.result c.count-bytes.result c.count-bytes.ensures.ran
    (YieldsList-from_take_while _ inner (YieldsList-at c.take_while.ensures.source (YieldsList-from_slice rest cc)) c.take_while.ensures.closure c.take_while.ensures.done (λ x b q k. search (rules, tests)))
    ∙ length-prefix_len inner rest in
    let there : rest ≡ drop c.args.from c.args.text.now = search rules in
    ap (λ n. take n rest) counted ∙ ap inner_run there
