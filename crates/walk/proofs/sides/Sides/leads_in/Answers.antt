use Rattle.std.proofs.Common.{ℕ, map, ◌∷◌, [], rules, tests, refl}
use native.Mathlib.Nat.{sub-zero}
use Rattle.std.proofs.lemmas.Iterator.{YieldsList-from_range}
use Rattle.std.proofs.lemmas.Iterator.Search.{all_from_yields_List}
use Rattle.runs.specs.Checks.{leads_into}
use Rattle.runs.specs.Walks.{moves_in}
use Rattle.walk.specs.Records.{move_of, pair_of}
use Rattle.walk.proofs.Leading.{parts_lead}
use Rattle.walk.proofs.sides.Sides.leads_in.Goals as goal

pub returns : goal.returns
returns g c =
    let f = g.F.Flow.meaning c.args.self.now.left.now in
    let other = g.G.Flow.meaning c.args.self.now.right.now in
    let list = map pair_of c.args.list.now in
    let pair = pair_of c.args.pair in
    let one = λ (a : ℕ). move_of c.args.situation a ∷ [] in
    record {
      leads = parts_lead f other list pair (moves_in c.args.situation) one refl (λ a. refl) _ _ c.actions.ensures.as_meant
          (all_from_yields_List (λ a. leads_into f other list pair (one a)) _ _ _ c.all.ensures.ran (YieldsList-from_range 0 _ _ refl (sub-zero _)) (λ x b q k. search (rules, tests)));
    }
