-- The faulty sign of each refusal.
use Rattle.std.specs.Prelude.{ℕ, cond, List, take, drop, nat_lt}
use Rattle.std.specs.List.{prefix_len}
use Rattle.signs.specs.Faults as sign
use Rattle.signs.specs.Names.{inner}
use Rattle.grammar.specs.Faults.{refusal_of}
use Rattle.grammar.specs.declared.fault.RuleFault.{RuleFault}
use Rattle.grammar.specs.declared.fault.RuleFault.TheVariants.{Sign, TooMany, Unfit, UnknownName, TooDeep, NotATest, NoRoom}

-- How many bytes the sign at a place has: those that may stand in a name, as many as there are, or else one.
abbrev pub sign_extent : List ℕ → ℕ → ℕ
sign_extent text place = cond (nat_lt 0 (prefix_len inner (drop place text))) (prefix_len inner (drop place text)) 1

abbrev pub sign_part : List ℕ → ℕ → List ℕ
sign_part text place = take (sign_extent text place) (drop place text)

-- How many bytes are faulty.
abbrev pub faulty_extent : List ℕ → RuleFault → ℕ
faulty_extent text (Sign fault) = sign.extent_of text fault
faulty_extent text (TooMany place) = sign_extent text place
faulty_extent text (Unfit place) = sign_extent text place
faulty_extent text (UnknownName place) = sign_extent text place
faulty_extent text (TooDeep place) = sign_extent text place
faulty_extent text (NotATest place) = sign_extent text place
faulty_extent text NoRoom = 0

-- The faulty sign: that many bytes from the place of the refusal on.
abbrev pub faulty_sign : List ℕ → RuleFault → List ℕ
faulty_sign text fault = take (faulty_extent text fault) (drop (refusal_of fault).place text)
