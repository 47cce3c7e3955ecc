-- The words part the line, and no others do.
use Rattle.std.proofs.Common.{refl}
use Rattle.words.proofs.WordLaws.{parted, only}
use Rattle.words.proofs.split_words.Words.new.Goals as goal

pub returns : goal.returns
returns c = record { all_bytes_are_ahead = refl; the_words_part_the_line = parted c.args.line.now; no_other_words_do = λ ws. only ws c.args.line.now }
