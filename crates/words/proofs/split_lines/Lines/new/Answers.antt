-- The lines give the text back, and no others do.
use Rattle.std.proofs.Common.{refl}
use Rattle.words.proofs.LineLaws.{lined, only}
use Rattle.words.proofs.split_lines.Lines.new.Goals as goal

pub returns : goal.returns
returns c = record { all_bytes_are_ahead = refl; the_lines_give_the_text_back = lined c.args.text.now; no_other_lines_do = λ ls. only ls c.args.text.now }
