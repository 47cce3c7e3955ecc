-- With every mask written, the copy is the vocabulary that was asked.
use Rattle.std.proofs.Common.{ℕ, ◌^◌, ◌<◌, ◌≤◌, get_or, sym, subst, arith}
use Rattle.masks.proofs.Bits.{bits_fit}
use Rattle.vocabulary.proofs.Masks.{written_is}
use Rattle.vocabulary.proofs.copied.Copied.of.Goals as goal

pub invariant_of-result : goal.invariant_of-result
invariant_of-result g c =
    let l = g.V.Vocabulary.lawful c.args.v.now in
    let some : 1 ≤ c.situations-situations.result = omega (arith, l.some) in
    let most : c.situations-situations.result ≤ 64 = omega (arith, l.most) in
    let few : c.tests-tests.result ≤ 32 = omega (arith, l.few) in
    record { some = some; most = most; few = few }

pub invariant_of-result-2 : goal.invariant_of-result-2
invariant_of-result-2 g c =
    let m = g.V.Vocabulary.meaning c.args.v.now in
    let within : (t : ℕ) → t < c.tests-tests.result → get_or c.loop-t.masks t 0 < 2 ^ c.situations-situations.result =
    λ t h. subst (λ n. get_or c.loop-t.masks t 0 < 2 ^ n) (sym c.situations-situations.ensures.as_meant)
    (subst (λ x. x < 2 ^ m.situations) (sym (c.loop-t.invariant.1 t (omega arith))) (bits_fit (m.holds t) m.situations)) in
    record { within = within }

pub returns : goal.returns
returns g c = record {
  meaning = written_is (g.V.Vocabulary.meaning c.args.v.now) (g.V.Vocabulary.lawful c.args.v.now) _ _ c.loop-t.masks
      c.situations-situations.ensures.as_meant c.tests-tests.ensures.as_meant (λ t h. c.loop-t.invariant.1 t (omega arith));
}
