-- The tables are filled from the nodes that are looked at, by the sheet's vocabulary and names.
use Rattle.std.proofs.Common.{◌≡◌, ℕ, ◌<◌, ◌≤◌, [], length, get_or, take, replicate, ap, ◌∙◌, arith, rules}
use Rattle.std.proofs.lemmas.List.{get_or_default}
use Rattle.sheet.specs.Laid.{sheet_of}
use Rattle.tables.specs.Masks.{FollowsFrom, WherePasses, action_mask, end_mask, follow_mask, term_of}
use Rattle.tables.specs.Tables.{table_lawful}
use Rattle.vocabulary.specs.Copies.{copied_lawful, copied_meaning}
use Rattle.places.proofs.Prepared.{prepared}
use Rattle.places.proofs.flow.RuleFlow.over.Goals as goal

pub returns : goal.returns
returns c =
    let laid = sheet_of c.args.sheet.now in
    let m = copied_meaning c.vocabulary-vocabulary.result.now in
    let n = c.situations.result in
    let k = c.actions.result in
    let whole = take 256 c.args.nodes.now in
    let looked = c.of-passing.result.rule.nodes.now in
    let pass = c.of-passing.result.pass.items in
    let same : looked ≡ whole = c.of-passing.ensures.same_nodes ∙ c.of-rule.ensures.first in
    let last : ℕ → ℕ = λ s. get_or c.table_of.result s 0 in
    let next : ℕ → ℕ → ℕ = λ s p. get_or (get_or c.table_of-2.result s []) p 0 in
    let own : ℕ → ℕ = λ a. get_or c.table_of-3.result a 0 in
    let lawful = copied_lawful c.vocabulary-vocabulary.result.now in
    let some : 1 ≤ n = omega (arith, lawful.some) in
    let most : n ≤ 64 = omega (arith, lawful.most) in
    let few = c.actions.ensures.few in
    let named : k ≡ length laid.names.actions = c.actions.ensures.counted ∙ ap (λ names. length names.actions) c.names.ensures in
    let inside : (s : ℕ) → s < n → s < m.situations = λ s lt. omega (arith, c.situations.ensures.as_meant) in
    record {
      as_its_places =
          prepared laid m (term_of whole) n k last next own (table_lawful n k last next own some most few) c.vocabulary-vocabulary.ensures c.situations.ensures.as_meant named
          (record {
            lasts = λ s lt.
                let filled = c.table_of.ensures.filled s lt in
                let gave : WherePasses looked pass s (λ holds. last s ≡ end_mask holds s (term_of looked)) = search rules in
                gave m.situations m.holds (inside s lt) c.of-passing.ensures.passing ∙ ap (λ nodes. end_mask m.holds s (term_of nodes)) same;
            nexts = λ s p lt place.
                let filled = c.table_of-2.ensures.filled s lt in
                let gave : WherePasses looked pass s (λ holds. FollowsFrom holds s (term_of looked) (get_or c.table_of-2.result s (replicate 64 0))) = search rules in
                ap (λ row. get_or row p 0) (get_or_default c.table_of-2.result s [] (replicate 64 0) (omega arith))
                ∙ gave m.situations m.holds (inside s lt) c.of-passing.ensures.passing p place ∙ ap (λ nodes. follow_mask m.holds s p (term_of nodes)) same;
            owns = λ a lt.
                let filled = c.table_of-3.ensures.filled a lt in
                let gave : own a ≡ action_mask a (term_of c.of-rule.result.nodes.now) = search rules in
                gave ∙ ap (λ nodes. action_mask a (term_of nodes)) c.of-rule.ensures.first;
          });
    }
