use Rattle.std.proofs.Common.{ℕ, map, rules, tests, refl}
use native.Mathlib.Nat.{sub-zero}
use Rattle.std.proofs.lemmas.Iterator.{YieldsList-from_range}
use Rattle.std.proofs.lemmas.Iterator.Search.{all_from_yields_List}
use Rattle.runs.specs.Checks.{leads_into}
use Rattle.runs.specs.Walks.{moves_below, moves_in}
use Rattle.walk.specs.Records.{pair_of}
use Rattle.walk.proofs.Leading.{parts_lead}
use Rattle.walk.proofs.sides.Sides.leads_into.Goals as goal

pub returns : goal.returns
returns g c =
    let f = g.F.Flow.meaning c.args.self.now.left.now in
    let other = g.G.Flow.meaning c.args.self.now.right.now in
    let list = map pair_of c.args.list.now in
    let pair = pair_of c.args.pair in
    let of_one = λ (s : ℕ). moves_in s f.actions in
    record {
      leads = parts_lead f other list pair (λ s. moves_below s f.actions) of_one refl (λ s. refl) _ _ c.situations.ensures.as_meant
          (all_from_yields_List (λ s. leads_into f other list pair (of_one s)) _ _ _ c.all.ensures.ran (YieldsList-from_range 0 _ _ refl (sub-zero _)) (λ x b q k. search (rules, tests)));
    }
