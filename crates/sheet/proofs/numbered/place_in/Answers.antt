use Rattle.std.proofs.Common.{ℕ, ◌<◌, Bool, List, length, IfSome, Some, None, Option, ◌∙◌}
use Rattle.std.specs.Str.{bytes_eq}
use Rattle.keys.specs.Keys.{Earliest}
use Rattle.keys.proofs.Firsts.{first_of_made}
use Rattle.sheet.specs.Spelling.{bytes_of}
use Rattle.sheet.proofs.numbered.place_in.Goals as goal

-- what was found lies in the list
inside : {X : Type 0} (test : X → Bool) (xs : List X) (r : Option ℕ) → Earliest test xs r → IfSome r (λ i. i < length xs)
inside test xs None h = tt
inside test xs (Some i) h = h.0

pub returns : goal.returns
returns c =
    let names = c.args.names.now in
    let name = bytes_of c.args.name.now in
    record {
      value = c.find.ensures.value ∙ first_of_made bytes_of (λ other. bytes_eq other name) names;
      within = inside (λ other. bytes_eq (bytes_of other) name) names c.find.result c.find.ensures.earliest;
    }
