-- A letter begins a word, which is as long as its run of bytes.
use Rattle.std.proofs.Common.{◌+◌, get_or, drop, sym, ap, ◌∙◌}
use Rattle.signs.specs.Signs.{word_at}
use Rattle.signs.specs.Reader.{with_behind}
use Rattle.signs.proofs.Bytes.{letter_inner, sign_letter}
use Rattle.signs.proofs.Words.{part_first}
use Rattle.signs.proofs.reader.sign_at.Goals as goal

pub returns-in_default : goal.returns-in_default
returns-in_default c =
    let text = c.args.text.now in
    let at = c.args.at in
    let first = sym c.if-is_letter.ensures in
    c.word_at.ensures
    ∙ ap (λ word. with_behind (word_at at word)) (part_first at text c.requires (letter_inner (get_or text at 0) first))
    ∙ sym (ap with_behind (sign_letter at (get_or text at 0) (drop (at + 1) text) first))
