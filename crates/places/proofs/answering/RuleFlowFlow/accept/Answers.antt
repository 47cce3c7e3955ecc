-- A situation is accepted where a mask shares a place with the code.
use Rattle.std.proofs.Common.{◌≡◌, ℕ, ◌∙◌, ap, get_or, eqb, not, arith, rules}
use lib.Bits.{bit_and}
use Rattle.masks.specs.Bits.{bits_below}
use Rattle.tables.specs.Tables.{shares}
use Rattle.tables.proofs.Answers.{shares_asked}
use Rattle.places.proofs.answering.RuleFlowFlow.accept.Goals as goal

pub returns : goal.returns
returns c =
    let code = c.args.code in
    let ends : ℕ → ℕ = λ s. get_or c.args.self.now.ends s 0 in
    let count = c.situations.ensures.as_meant in
    let most = c.args.self.now.counts.most in
    record {
      as_meant = c.mask_where.ensures.bits_are_the_answers (λ s. shares code (ends s))
          (λ s h b e.
          let asked : b ≡ not (eqb (bit_and code (get_or c.args.self.now.ends s 0)) 0) = search rules in
          asked ∙ shares_asked code (ends s) (omega arith))
          ∙ ap (bits_below (λ s. shares code (ends s))) count;
    }
