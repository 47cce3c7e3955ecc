-- What a line within the limits has.
use Rattle.std.proofs.Common.{◌≡◌, ℕ, ◌^◌, ◌<◌, true, sym, ap, ◌∙◌}
use Rattle.std.proofs.lemmas.Bool.{and_parts, ltb-true}
use Rattle.charts.specs.Limits.{line_within}
use Rattle.charts.specs.declared.line.Line.{Line}
use Rattle.charts.specs.declared.line.Line.TheVariants.{Move, End}

-- The numbers of a move line that is within.
pub record MoveWithin (n k states from mask action to : ℕ) : Type 0 where
  pub source : from < states
  pub target : to < states
  pub act : action < k
  pub short : mask < 2 ^ n

pub move_within : (n k states : ℕ) (line : Line) (from mask action to : ℕ) → line ≡ Move from mask action to → line_within n k states line ≡ true → MoveWithin n k states from mask action to
move_within n k states line from mask action to is h =
    let all = and_parts _ _ (sym (ap (line_within n k states) is) ∙ h) in
    let rest = and_parts _ _ all.1 in
    let last = and_parts _ _ rest.1 in
    record {
      source = ltb-true _ _ all.0;
      target = ltb-true _ _ rest.0;
      act = ltb-true _ _ last.0;
      short = ltb-true _ _ last.1;
    }

-- The numbers of an end line that is within.
pub record EndWithin (n states at mask : ℕ) : Type 0 where
  pub state : at < states
  pub short : mask < 2 ^ n

pub end_within : (n k states : ℕ) (line : Line) (at mask : ℕ) → line ≡ End at mask → line_within n k states line ≡ true → EndWithin n states at mask
end_within n k states line at mask is h =
    let all = and_parts _ _ (sym (ap (line_within n k states) is) ∙ h) in
    record { state = ltb-true _ _ all.0; short = ltb-true _ _ all.1 }
