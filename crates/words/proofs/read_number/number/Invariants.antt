-- What is left of the word, behind the digits that gave the value, gives the number of the whole word.
use Rattle.std.proofs.Common.{◌≡◌, ◌^◌, ◌<◌, drop}
use Rattle.words.specs.Number.{number_on}
use Rattle.words.proofs.read_number.number.Given as goal

abbrev pub invariant-loop-b : goal.invariant-loop-b
invariant-loop-b l = (number_on l.value (drop l.b-index l.word) ≡ number_on 0 l.word) × (l.value < 2 ^ 64)
