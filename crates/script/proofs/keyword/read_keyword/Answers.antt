-- The words, as their slice patterns read.
use Rattle.std.proofs.Common.{refl, codes, rules}
use Rattle.script.proofs.Spelled.{is_read}
use Rattle.script.proofs.keyword.read_keyword.Goals as goal

pub returns-in-action : goal.returns-in-action
returns-in-action c = rw (is_read c.args.word.now (codes "action") (search rules) (search rules)) refl

pub returns-in-vocabulary : goal.returns-in-vocabulary
returns-in-vocabulary c = rw (is_read c.args.word.now (codes "vocabulary") (search rules) (search rules)) refl
