-- What the reader is proved to do: it grants exactly the rules of the grammar, each with the one term that its signs derive.
use Rattle.std.specs.Prelude.{◌≡◌, ℕ, ◌+◌, ◌*◌, ◌<◌, ◌≤◌, Bool, true, false, ◌||◌, List, [], ◌∷◌, Ok, Option, Result, ◌≢◌}
use Rattle.sheet.specs.declared.named.Named.{Named}
use Rattle.signs.specs.Signs.{Mark}
use Rattle.signs.specs.declared.fault.SignFault.{SignFault}
use Rattle.kat.specs.Places.{Numbered}
use Rattle.kat.specs.Terms.{Term, is_test, size}
use Rattle.grammar.specs.Tests.{ATest}
use Rattle.grammar.specs.Derivations.{Choice, Chain, Step, Unit', Rule, plain_signs}
use Rattle.grammar.specs.Reading.{Ahead, sign, over, faulty, Machine, following', Pulled, pull, Built, Grown, is_repeating, is_following, is_choosing}
use Rattle.grammar.specs.Reading.{choice_from, chain_from, step_from, unit_from, signs_left, read_ahead}
use Rattle.grammar.specs.declared.fault.RuleFault.{RuleFault}

-- What each name names, if anything.
abbrev pub Meaning : Type 0
Meaning = List ℕ → Option Named

-- The signs in front of what lies ahead behind them.
abbrev pub infront : List Mark → Ahead → Ahead
infront [] ahead = ahead
infront (m ∷ signs) ahead = sign m (infront signs ahead)

-- The signs, and then the end of the text at the place.
abbrev pub ahead_of : List Mark → ℕ → Ahead
ahead_of signs place = infront signs (over place)

-- What is granted is a rule: the signs derive the term that they are read to.
abbrev pub GrantedIsARule : Type 0
GrantedIsARule =
    (means : Meaning) (signs : List Mark) (place : ℕ) (e : Term)
    → read_ahead means (ahead_of signs place) ≡ Ok e → Rule means signs e

-- Every rule is granted, wherever its text ends, with the term that its signs derive.
abbrev pub RuleIsGranted : Type 0
RuleIsGranted =
    (means : Meaning) (signs : List Mark) (place : ℕ) (e : Term)
    → Rule means signs e → read_ahead means (ahead_of signs place) ≡ Ok e

-- Signs with a fault of the sign reader behind them are never granted.
abbrev pub FaultNeverGranted : Type 0
FaultNeverGranted =
    (means : Meaning) (signs : List Mark) (fault : SignFault) (e : Term)
    → read_ahead means (infront signs (faulty fault)) ≢ Ok e

-- No list of signs derives two terms, or counts two numbers of actions, however many levels each derivation may open.
abbrev pub OneTerm : Type 0
OneTerm =
    (means : Meaning) (depth depth' before after after' : ℕ) (signs : List Mark) (e e' : Term)
    → Choice means depth before signs e after → Choice means depth' before signs e' after' → (e ≡ e') × (after ≡ after')

-- The places of a rule are numbered 1, 2, .. in the order of its text, and there are at most 63.
abbrev pub RuleIsNumbered : Type 0
RuleIsNumbered = (means : Meaning) (signs : List Mark) (e : Term) → Rule means signs e → Numbered e

-- Every sign of a rule other than a bracket makes one part of its term.
abbrev pub SizeCountsSigns : Type 0
SizeCountsSigns = (means : Meaning) (signs : List Mark) (e : Term) → Rule means signs e → size e ≡ plain_signs signs

-- What the reader asks of a term behind `!` tells exactly the tests.
abbrev pub TestsAreTold : Type 0
TestsAreTold = (e : Term) → (is_test e ≡ true → ATest e) × (ATest e → is_test e ≡ true)

-- With more fuel than four times the signs that lie ahead, and 3 for a choice, 2 for a chain, 1 for a step and none for a
-- unit, what a builder makes does not depend on the fuel.
pub record SameByFuel (f g : ℕ) (means : Meaning) (levels : ℕ) (ahead : Ahead) (m : Machine) : Type 0 where
  pub choices : signs_left ahead * 4 + 3 < f → signs_left ahead * 4 + 3 < g → choice_from f means levels ahead m ≡ choice_from g means levels ahead m
  pub chains : signs_left ahead * 4 + 2 < f → signs_left ahead * 4 + 2 < g → chain_from f means levels ahead m ≡ chain_from g means levels ahead m
  pub steps : signs_left ahead * 4 + 1 < f → signs_left ahead * 4 + 1 < g → step_from f means levels ahead m ≡ step_from g means levels ahead m
  pub units : signs_left ahead * 4 < f → signs_left ahead * 4 < g → unit_from f means levels ahead m ≡ unit_from g means levels ahead m

abbrev pub FuelIsEnough : Type 0
FuelIsEnough = (f g : ℕ) (means : Meaning) (levels : ℕ) (ahead : Ahead) (m : Machine) → SameByFuel f g means levels ahead m

-- The state behind signs that were read: the reader follows a unit, the brackets are as before, and the signs and actions
-- are counted.
abbrev pub past : Machine → List Mark → ℕ → Machine
past m signs actions = record { wants = following'; brackets = m.brackets; signs = m.signs + plain_signs signs; actions = actions }

-- A unit was built: signs lay ahead that derive its term, the state is the one behind them, and no limit was passed.
pub record UnitBuilt (means : Meaning) (levels : ℕ) (ahead : Ahead) (m : Machine) (b : Built) : Type 0 where
  pub read : List Mark
  pub after : ℕ
  pub consumed : ahead ≡ infront read b.ahead
  pub derived : Unit' means levels m.actions read b.term after
  pub state : b.machine ≡ past m read after
  pub few_signs : m.signs ≤ 255 → m.signs + plain_signs read ≤ 255
  pub few_actions : m.actions ≤ 63 → after ≤ 63

-- How steps, chains or choices are derived: behind so many actions the signs derive the term, and then there are so many.
abbrev pub Deriving : Type 1
Deriving = ℕ → List Mark → Term → ℕ → Type 0

-- The sign behind a part, as it was judged.
abbrev pub pulled_behind : Grown → Pulled
pulled_behind g = record { mark = g.next; ahead = g.ahead; machine = g.machine }

-- A step, chain or choice was built: signs lay ahead that derive its term, no limit was passed, and behind them a sign was
-- judged, or the end, with which such a part does not go on.
pub record PartGrown (Derives : Deriving) (goes_on : Option Mark → Bool) (means : Meaning) (levels : ℕ) (ahead : Ahead) (m : Machine) (g : Grown) : Type 0 where
  pub read : List Mark
  pub rest : Ahead
  pub after : ℕ
  pub consumed : ahead ≡ infront read rest
  pub derived : Derives m.actions read g.term after
  pub few_signs : m.signs ≤ 255 → m.signs + plain_signs read ≤ 255
  pub few_actions : m.actions ≤ 63 → after ≤ 63
  pub next_judged : pull means levels rest (past m read after) ≡ Ok (pulled_behind g)
  pub ended : goes_on g.next ≡ false

-- A step goes on with `*`, a chain with `;` too, and a choice with `|` too.
abbrev pub chain_goes_on : Option Mark → Bool
chain_goes_on next = is_repeating next || is_following next

abbrev pub choice_goes_on : Option Mark → Bool
choice_goes_on next = chain_goes_on next || is_choosing next

-- What builds units builds none but those that are derived from the signs that it read.
abbrev pub UnitsDerived : Meaning → ℕ → (Ahead → Machine → Result Built RuleFault) → Type 0
UnitsDerived means levels from = (ahead : Ahead) (m : Machine) (b : Built) → from ahead m ≡ Ok b → UnitBuilt means levels ahead m b

-- The same for what builds steps, chains or choices.
abbrev pub PartsDerived : Deriving → (Option Mark → Bool) → Meaning → ℕ → (Ahead → Machine → Result Grown RuleFault) → Type 0
PartsDerived Derives goes_on means levels from =
    (ahead : Ahead) (m : Machine) (g : Grown) → from ahead m ≡ Ok g → PartGrown Derives goes_on means levels ahead m g

-- All that the builders build, with any fuel, is derived from the signs that they read.
pub record BuildersSound (fuel : ℕ) (means : Meaning) (levels : ℕ) : Type 0 where
  pub choices : PartsDerived (Choice means levels) choice_goes_on means levels (choice_from fuel means levels)
  pub chains : PartsDerived (Chain means levels) chain_goes_on means levels (chain_from fuel means levels)
  pub steps : PartsDerived (Step means levels) is_repeating means levels (step_from fuel means levels)
  pub units : UnitsDerived means levels (unit_from fuel means levels)

abbrev pub BuiltIsDerived : Type 0
BuiltIsDerived = (fuel : ℕ) (means : Meaning) (levels : ℕ) → BuildersSound fuel means levels
