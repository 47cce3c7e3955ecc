-- The first arrow that fits is the one that is found.
use Rattle.std.proofs.Common.{◌≡◌, ℕ, Some, None, Option, rules, tests, sym, refl, ap, ◌∙◌}
use Rattle.std.specs.Option.{option_map, option_map_or}
use Rattle.std.proofs.lemmas.Iterator.{YieldsList-from_slice}
use Rattle.std.proofs.lemmas.Iterator.Search.{find_from_yields_List}
use Rattle.charts.specs.Lines.{fits}
use Rattle.charts.proofs.Arrows.{along_found}
use Rattle.charts.proofs.chart.flowing.first_fitting.Goals as goal

-- What a value behind a found reference gives.
behind : {A B : Type 0} (see : B → A) (give : A → ℕ) (found : Option B) (other : ℕ) → option_map_or give (option_map see found) other ≡ option_map_or (λ x. give (see x)) found other
behind see give None other = refl
behind see give (Some x) other = refl

pub returns : goal.returns
returns c =
    let xs = c.args.arrows.now in
    let found = find_from_yields_List (λ x. fits x.from x.mask x.action c.args.state c.args.situation c.args.action) _ _ c.find.result c.find.ensures.ran (YieldsList-from_slice xs cc) (λ x b q k. search (rules, tests)) in
    let all = along_found xs 255 c.args.state c.args.situation c.args.action in
    let seen = behind (λ x. x.now) (λ x. x.to) c.find.result 255 in
    let one : c.map_or.result ≡ option_map_or (λ x. x.now.to) c.find.result 255 = search rules in
    record { leads = one ∙ sym seen ∙ ap (λ o. option_map_or (λ x. x.to) o 255) found ∙ sym all }
