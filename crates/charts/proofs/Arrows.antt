-- One arrow more of those that a chart keeps, at the front and at the end.
use Rattle.std.proofs.Common.{◌≡◌, ℕ, Bool, true, false, cond, List, [], ◌∷◌, ◌++◌, Some, sym, refl, ap, ◌∙◌}
use Rattle.std.specs.List.{find}
use Rattle.std.specs.Option.{option_map_or}
use Rattle.charts.specs.Lines.{fits, leads_to}
use Rattle.charts.specs.Kept.{along}
use Rattle.charts.specs.declared.arrow.Arrow.{Arrow}
use Rattle.charts.specs.declared.line.Line.{Line}
use Rattle.charts.specs.declared.line.Line.TheVariants.{Move}

-- Arrows lead where the first of them that fits does.
pub along_found : (arrows : List Arrow) (other state s a : ℕ) → along arrows other state s a ≡ option_map_or (λ x. x.to) (find (λ x. fits x.from x.mask x.action state s a) arrows) other
along_found [] other state s a = refl
along_found (x ∷ arrows) other state s a =
    ap (cond (fits x.from x.mask x.action state s a) x.to) (along_found arrows other state s a)
    ∙ sym (of_cond (fits x.from x.mask x.action state s a))
  where
    of_cond : (b : Bool) → option_map_or (λ (x : Arrow). x.to) (cond b (Some x) (find (λ x. fits x.from x.mask x.action state s a) arrows)) other ≡ cond b x.to (option_map_or (λ (x : Arrow). x.to) (find (λ x. fits x.from x.mask x.action state s a) arrows) other)
    of_cond true = refl
    of_cond false = refl

-- An arrow at the end is what the others lead to where none of them fits.
along_last : (arrows : List Arrow) (x : Arrow) (other state s a : ℕ) → along (arrows ++ x ∷ []) other state s a ≡ along arrows (cond (fits x.from x.mask x.action state s a) x.to other) state s a
along_last [] x other state s a = refl
along_last (y ∷ arrows) x other state s a = ap (cond (fits y.from y.mask y.action state s a) y.to) (along_last arrows x other state s a)

-- With the arrow of a move line put at the end, the arrows lead with the lines to come as before with the line in front.
pub move_put : (before after : List Arrow) (x : Arrow) (line : Line) → after ≡ before ++ x ∷ [] → line ≡ Move x.from x.mask x.action x.to → (lines : List Line) (state s a : ℕ) → along after (leads_to lines state s a) state s a ≡ along before (leads_to (line ∷ lines) state s a) state s a
move_put before after x line put is lines state s a =
    ap (λ xs. along xs (leads_to lines state s a) state s a) put
    ∙ along_last before x (leads_to lines state s a) state s a
    ∙ ap (λ l. along before (leads_to (l ∷ lines) state s a) state s a) (sym is)
