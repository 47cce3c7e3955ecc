-- What is read stands behind the blanks that the line begins with, and before the next blank.
use Rattle.std.proofs.Common.{◌<◌, length, sym, arith, rules}
use Rattle.std.proofs.lemmas.List.Sums.{prefix_len-le-length}
use Rattle.std.proofs.lemmas.Bool.{eqb-true, eqb-false}
use Rattle.words.specs.Words.{blank, in_word}
use Rattle.words.proofs.WordLaws.{read_word, read_none}
use Rattle.words.proofs.split_words.WordsIterator.next.Goals as goal
use Rattle.std.proofs.iter.Next.{firm}

pub split_at-requires : goal.split_at-requires
split_at-requires c = omega (arith, prefix_len-le-length blank c.args.self.now.rest.now)

pub split_at-requires-2 : goal.split_at-requires-2
split_at-requires-2 c = omega (arith, prefix_len-le-length in_word c.split_at.result.1.now)

pub returns-then-is_empty : goal.returns-then-is_empty
returns-then-is_empty c =
    let first = c.split_at.ensures in
    let second = c.split_at-2.ensures in
    let none = eqb-true (length c.split_at-2.result.0.now) 0 (sym c.if-is_empty.ensures) in
    record {
      steps = read_none _ _ _ _ _ _ c.blanks_len.ensures first.back c.word_len.ensures second.front second.back none;
      goes = firm (tt) (λ h. search rules);
    }

pub returns-else-is_empty : goal.returns-else-is_empty
returns-else-is_empty c =
    let first = c.split_at.ensures in
    let second = c.split_at-2.ensures in
    let word = c.split_at-2.result.0.now in
    let some : 0 < length word = omega (arith, eqb-false (length word) 0 (sym c.if-is_empty.ensures)) in
    let step = read_word _ _ _ _ _ _ c.blanks_len.ensures first.back c.word_len.ensures second.front second.back some in
    record { steps = step; goes = firm ((tt, tt, step.cases)) (λ h. search rules) }
