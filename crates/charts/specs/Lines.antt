-- What the lines of a chart say of a state.
use Rattle.std.specs.Prelude.{ℕ, Bool, cond, ◌&&◌, List, [], ◌∷◌, ◌==◌, bit_or}
use Rattle.masks.specs.Bits.{bit}
use Rattle.charts.specs.declared.line.Line.{Line}
use Rattle.charts.specs.declared.line.Line.TheVariants.{Move, End}

-- A move line fits a state, a situation and an action when its state and its action are these and its mask has the situation.
abbrev pub fits : ℕ → ℕ → ℕ → ℕ → ℕ → ℕ → Bool
fits from mask action state s a = from == state && (bit s mask && action == a)

-- The state that the first fitting move line leads to; 255, which is never a state, where none fits.
abbrev pub leads_to : List Line → ℕ → ℕ → ℕ → ℕ
leads_to [] state s a = 255
leads_to (Move from mask action to ∷ lines) state s a = cond (fits from mask action state s a) to (leads_to lines state s a)
leads_to (End at mask ∷ lines) state s a = leads_to lines state s a

-- The situations in which a run may end at a state: the masks of all its end lines, joined.
abbrev pub ends_at : List Line → ℕ → ℕ
ends_at [] state = 0
ends_at (Move from mask action to ∷ lines) state = ends_at lines state
ends_at (End at mask ∷ lines) state = cond (at == state) (bit_or mask (ends_at lines state)) (ends_at lines state)
