-- Counts of situations and actions within the limits of every flow.
use Rattle.std.specs.Prelude.{ℕ, cond, ◌&&◌, Some, None, Option, nat_le}

-- Both counts, where there are 1 to 64 situations and at most 16 actions; none elsewhere.
abbrev pub counted : ℕ → ℕ → Option (ℕ × ℕ)
counted situations actions = cond (nat_le 1 situations && (nat_le situations 64 && nat_le actions 16)) (Some (situations, actions)) None
