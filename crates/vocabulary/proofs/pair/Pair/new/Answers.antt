-- What a pair means follows from its counts.
use Rattle.std.proofs.Common.{◌<◌, ◌*◌, arith, mul-pos}
use Rattle.vocabulary.proofs.Pairing.{paired}
use Rattle.vocabulary.proofs.pair.Pair.new.Goals as goal

pub invariant_of-result : goal.invariant_of-result
invariant_of-result g c =
    let first : 0 < c.situations.result = omega (arith, (g.V.Vocabulary.lawful c.args.first).some, c.situations.ensures.as_meant) in
    let second : 0 < c.situations-width.result = omega (arith, (g.W.Vocabulary.lawful c.args.second).some, c.situations-width.ensures.as_meant) in
    let both : 0 < c.situations.result * c.situations-width.result = mul-pos first second in
    record { some = omega (arith, both, c.in-Some.ensures.1); most = omega arith; few = omega arith }

pub returns-in-Some : goal.returns-in-Some
returns-in-Some g c =
    let p = paired (g.V.Vocabulary.meaning c.args.first) (g.W.Vocabulary.meaning c.args.second) _ _ _ _ _ c.in-Some.ensures.1
    c.situations.ensures.as_meant c.situations-width.ensures.as_meant c.tests-firsts.ensures.as_meant c.tests.ensures.as_meant
    (g.W.Vocabulary.lawful c.args.second) (omega arith) (omega arith) in
    record { meaning = p.granted; joined_test_holds_in_its_part = p.in_parts; each_situation_joins_one_of_each = p.one_of_each }
