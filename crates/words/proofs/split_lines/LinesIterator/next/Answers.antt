-- What is read is the line before the first line feed, and what is left stands behind that line feed.
use Rattle.std.proofs.Common.{◌≡◌, ◌<◌, length, drop, sym, ap, ◌∙◌, arith, rules}
use Rattle.std.proofs.lemmas.List.Sums.{prefix_len-le-length}
use Rattle.std.proofs.lemmas.Bool.{eqb-false}
use Rattle.words.specs.Lines.{in_line}
use Rattle.words.proofs.LineLaws.{read_line}
use Rattle.words.proofs.split_lines.LinesIterator.next.Goals as goal

pub split_at-requires : goal.split_at-requires
split_at-requires c = omega (arith, prefix_len-le-length in_line c.args.self.now.rest.now)

pub returns-clause-steps : goal.returns-clause-steps
returns-clause-steps c =
    let text = c.args.self.now.rest.now in
    let full : 0 < length text = omega (arith, eqb-false (length text) 0 (sym c.if-is_empty.ensures)) in
    let left : c.map_or-self.result.now ≡ drop 1 c.split_at.result.1.now = search rules in
    read_line text _ _ _ full c.line_len.ensures c.split_at.ensures.front (left ∙ ap (drop 1) c.split_at.ensures.back)
