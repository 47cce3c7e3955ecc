-- The reading of signs, one by one: each is judged fully, by what the reader wants and has counted, before the next is
-- read; and four builders, choice, chain, step and unit, make the term. Every call of a builder takes one of `fuel`.
use Rattle.std.specs.Prelude.{ℕ, zero, suc, ◌+◌, ◌-◌, ◌*◌, Bool, true, false, cond, not, ◌&&◌, List, Some, None, Ok, Err, Option, Result, ◌==◌, nat_lt}
use Rattle.sheet.specs.declared.named.Named.{Named}
use Rattle.sheet.specs.declared.named.Named.TheVariants.{Test, Action}
use Rattle.signs.specs.Signs.{Mark, named, skipping, stopping, opening, closing, negating, repeating, following, choosing, stands_at}
use Rattle.signs.specs.declared.fault.SignFault.{SignFault}
use Rattle.kat.specs.Terms.{Term, act, chain, choice, is_test, skip, star, stop, test}
use Rattle.kat.specs.Terms as term
use Rattle.grammar.specs.declared.fault.RuleFault.{RuleFault}
use Rattle.grammar.specs.declared.fault.RuleFault.TheVariants.{Sign, TooMany, Unfit, UnknownName, TooDeep, NotATest}

-- What lies ahead in a text: signs, and then the end, at the text's length, or a fault of the sign reader.
pub data Ahead : Type 0 where
  sign : Mark → Ahead → Ahead
  over : ℕ → Ahead
  faulty : SignFault → Ahead

-- The reader wants a unit, or follows one.
pub data Wants : Type 0 where
  wanting : Wants
  following' : Wants

-- The reader's state: what it wants, and how many brackets are open, signs other than brackets read, and actions read.
pub record Machine : Type 0 where
  pub wants : Wants
  pub brackets : ℕ
  pub signs : ℕ
  pub actions : ℕ

-- As a text begins.
abbrev pub fresh : Machine
fresh = record { wants = wanting; brackets = 0; signs = 0; actions = 0 }

-- A bracket is not counted among the signs.
abbrev pub is_bracket : Mark → Bool
is_bracket (named name place) = false
is_bracket (skipping place) = false
is_bracket (stopping place) = false
is_bracket (opening place) = true
is_bracket (closing place) = true
is_bracket (negating place) = false
is_bracket (repeating place) = false
is_bracket (following place) = false
is_bracket (choosing place) = false

-- Wanting, the reader takes `(`, `!`, a name or a word.
abbrev pub wanted : Mark → Bool
wanted (named name place) = true
wanted (skipping place) = true
wanted (stopping place) = true
wanted (opening place) = true
wanted (closing place) = false
wanted (negating place) = true
wanted (repeating place) = false
wanted (following place) = false
wanted (choosing place) = false

-- Following, it takes `*`, `;`, `|`, or a `)` that closes a bracket.
abbrev pub follows : ℕ → Mark → Bool
follows brackets (named name place) = false
follows brackets (skipping place) = false
follows brackets (stopping place) = false
follows brackets (opening place) = false
follows brackets (closing place) = nat_lt 0 brackets
follows brackets (negating place) = false
follows brackets (repeating place) = true
follows brackets (following place) = true
follows brackets (choosing place) = true

-- Whether the sign can come here.
abbrev pub fits : Wants → ℕ → Mark → Bool
fits wanting brackets m = wanted m
fits following' brackets m = follows brackets m

-- The sign opens a level.
abbrev pub opens : Mark → Bool
opens (named name place) = false
opens (skipping place) = false
opens (stopping place) = false
opens (opening place) = true
opens (closing place) = false
opens (negating place) = true
opens (repeating place) = false
opens (following place) = false
opens (choosing place) = false

-- The state behind a sign that was taken.
abbrev pub counted : Machine → Wants → Machine
counted m wants = record { wants = wants; brackets = m.brackets; signs = m.signs + 1; actions = m.actions }

-- A name that names a test is taken; of actions there are at most 63; a name that names nothing is refused.
abbrev pub take_name : Option Named → ℕ → Machine → Result Machine RuleFault
take_name None place m = Err (UnknownName place)
take_name (Some (Test t)) place m = Ok (counted m following')
take_name (Some (Action a)) place m =
    cond (m.actions == 63) (Err (TooMany place))
    (Ok (record { wants = following'; brackets = m.brackets; signs = m.signs + 1; actions = m.actions + 1 }))

abbrev pub take : (List ℕ → Option Named) → Mark → Machine → Result Machine RuleFault
take means (named name place) m = take_name (means name) place m
take means (skipping place) m = Ok (counted m following')
take means (stopping place) m = Ok (counted m following')
take means (opening place) m = Ok (record { wants = wanting; brackets = m.brackets + 1; signs = m.signs; actions = m.actions })
take means (closing place) m = Ok (record { wants = following'; brackets = m.brackets - 1; signs = m.signs; actions = m.actions })
take means (negating place) m = Ok (counted m wanting)
take means (repeating place) m = Ok (counted m following')
take means (following place) m = Ok (counted m wanting)
take means (choosing place) m = Ok (counted m wanting)

-- A sign is judged: the 256th that is no bracket, then one that cannot come here, then a level too many, then what its
-- name names.
abbrev pub judge : (List ℕ → Option Named) → ℕ → Mark → Machine → Result Machine RuleFault
judge means levels m machine =
    cond (not (is_bracket m) && machine.signs == 255) (Err (TooMany (stands_at m)))
    (cond (not (fits machine.wants machine.brackets m)) (Err (Unfit (stands_at m)))
    (cond (opens m && levels == 0) (Err (TooDeep (stands_at m)))
    (take means m machine)))

-- The end can come when no unit is wanted and no bracket is open.
abbrev pub end_fits : Machine → Bool
end_fits machine = ends machine.wants
  where
    ends : Wants → Bool
    ends wanting = false
    ends following' = machine.brackets == 0

-- A sign that was judged, or the end, with what lies ahead and the state behind it.
pub record Pulled : Type 0 where
  pub mark : Option Mark
  pub ahead : Ahead
  pub machine : Machine

abbrev pub judged : Mark → Ahead → Result Machine RuleFault → Result Pulled RuleFault
judged m ahead (Ok machine) = Ok (record { mark = Some m; ahead = ahead; machine = machine })
judged m ahead (Err fault) = Err fault

abbrev pub pull : (List ℕ → Option Named) → ℕ → Ahead → Machine → Result Pulled RuleFault
pull means levels (sign m ahead) machine = judged m ahead (judge means levels m machine)
pull means levels (over place) machine = cond (end_fits machine) (Ok (record { mark = None; ahead = over place; machine = machine })) (Err (Unfit place))
pull means levels (faulty fault) machine = Err (Sign fault)

-- A unit that was built, with what lies ahead.
pub record Built : Type 0 where
  pub term : Term
  pub ahead : Ahead
  pub machine : Machine

-- A step, chain or choice that was built, with the sign behind it, which has been judged, or none at the end.
pub record Grown : Type 0 where
  pub term : Term
  pub next : Option Mark
  pub ahead : Ahead
  pub machine : Machine

abbrev pub bind_pulled : {X : Type 0} → Result Pulled RuleFault → (Pulled → Result X RuleFault) → Result X RuleFault
bind_pulled (Ok p) k = k p
bind_pulled (Err fault) k = Err fault

abbrev pub bind_built : {X : Type 0} → Result Built RuleFault → (Built → Result X RuleFault) → Result X RuleFault
bind_built (Ok b) k = k b
bind_built (Err fault) k = Err fault

abbrev pub bind_grown : {X : Type 0} → Result Grown RuleFault → (Grown → Result X RuleFault) → Result X RuleFault
bind_grown (Ok g) k = k g
bind_grown (Err fault) k = Err fault

abbrev pub is_repeating : Option Mark → Bool
is_repeating None = false
is_repeating (Some (named name place)) = false
is_repeating (Some (skipping place)) = false
is_repeating (Some (stopping place)) = false
is_repeating (Some (opening place)) = false
is_repeating (Some (closing place)) = false
is_repeating (Some (negating place)) = false
is_repeating (Some (repeating place)) = true
is_repeating (Some (following place)) = false
is_repeating (Some (choosing place)) = false

abbrev pub is_following : Option Mark → Bool
is_following None = false
is_following (Some (named name place)) = false
is_following (Some (skipping place)) = false
is_following (Some (stopping place)) = false
is_following (Some (opening place)) = false
is_following (Some (closing place)) = false
is_following (Some (negating place)) = false
is_following (Some (repeating place)) = false
is_following (Some (following place)) = true
is_following (Some (choosing place)) = false

abbrev pub is_choosing : Option Mark → Bool
is_choosing None = false
is_choosing (Some (named name place)) = false
is_choosing (Some (skipping place)) = false
is_choosing (Some (stopping place)) = false
is_choosing (Some (opening place)) = false
is_choosing (Some (closing place)) = false
is_choosing (Some (negating place)) = false
is_choosing (Some (repeating place)) = false
is_choosing (Some (following place)) = false
is_choosing (Some (choosing place)) = true

abbrev pub is_closing : Option Mark → Bool
is_closing None = false
is_closing (Some (named name place)) = false
is_closing (Some (skipping place)) = false
is_closing (Some (stopping place)) = false
is_closing (Some (opening place)) = false
is_closing (Some (closing place)) = true
is_closing (Some (negating place)) = false
is_closing (Some (repeating place)) = false
is_closing (Some (following place)) = false
is_closing (Some (choosing place)) = false

-- What a name builds; the actions counted with it are its place.
abbrev pub named_unit : Option Named → ℕ → Ahead → Machine → Result Built RuleFault
named_unit None place ahead m = Err (UnknownName place)
named_unit (Some (Test t)) place ahead m = Ok (record { term = test t; ahead = ahead; machine = m })
named_unit (Some (Action a)) place ahead m = Ok (record { term = act a m.actions; ahead = ahead; machine = m })

-- The unit under a `!` is complete: it must be a test.
abbrev pub negated_unit : ℕ → Built → Result Built RuleFault
negated_unit place b = cond (is_test b.term) (Ok (record { term = term.not b.term; ahead = b.ahead; machine = b.machine })) (Err (NotATest place))

-- The choice in a bracket is complete with the `)` behind it.
abbrev pub closed_unit : ℕ → Grown → Result Built RuleFault
closed_unit place g = cond (is_closing g.next) (Ok (record { term = g.term; ahead = g.ahead; machine = g.machine })) (Err (Unfit place))

-- The unit that begins with a sign that was judged; `inner` and `whole` build what stands under it.
abbrev pub unit_at : (List ℕ → Option Named) → (Ahead → Machine → Result Built RuleFault) → (Ahead → Machine → Result Grown RuleFault) → Option Mark → Ahead → Machine → Result Built RuleFault
unit_at means inner whole None ahead m = Err (Unfit 0)
unit_at means inner whole (Some (named name place)) ahead m = named_unit (means name) place ahead m
unit_at means inner whole (Some (skipping place)) ahead m = Ok (record { term = skip; ahead = ahead; machine = m })
unit_at means inner whole (Some (stopping place)) ahead m = Ok (record { term = stop; ahead = ahead; machine = m })
unit_at means inner whole (Some (opening place)) ahead m = bind_grown (whole ahead m) (closed_unit place)
unit_at means inner whole (Some (closing place)) ahead m = Err (Unfit place)
unit_at means inner whole (Some (negating place)) ahead m = bind_built (inner ahead m) (negated_unit place)
unit_at means inner whole (Some (repeating place)) ahead m = Err (Unfit place)
unit_at means inner whole (Some (following place)) ahead m = Err (Unfit place)
unit_at means inner whole (Some (choosing place)) ahead m = Err (Unfit place)

abbrev pub grown : Term → Option Mark → Ahead → Machine → Grown
grown e next ahead machine = record { term = e; next = next; ahead = ahead; machine = machine }

-- What follows a unit: each `*` repeats what there is, and any other sign ends the step.
abbrev pub stars_at : Mark → Ahead → Term → (Machine → Result Grown RuleFault) → Result Machine RuleFault → Result Grown RuleFault
stars_at m ahead e again (Err fault) = Err fault
stars_at m ahead e again (Ok machine) = cond (is_repeating (Some m)) (again machine) (Ok (grown e (Some m) ahead machine))

abbrev pub stars_from : (List ℕ → Option Named) → ℕ → Ahead → Term → Machine → Result Grown RuleFault
stars_from means levels (sign m ahead) e machine = stars_at m ahead e (λ behind. stars_from means levels ahead (star e) behind) (judge means levels m machine)
stars_from means levels (over place) e machine = cond (end_fits machine) (Ok (grown e None (over place) machine)) (Err (Unfit place))
stars_from means levels (faulty fault) e machine = Err (Sign fault)

-- Two parts joined, with what lies behind the second.
abbrev pub joined_with : (Term → Term → Term) → Term → Grown → Result Grown RuleFault
joined_with join e g = Ok (grown (join e g.term) g.next g.ahead g.machine)

-- A part, and where a joining sign is behind it the rest.
abbrev pub or_more : (Option Mark → Bool) → (Term → Term → Term) → (Ahead → Machine → Result Grown RuleFault) → Grown → Result Grown RuleFault
or_more joins join more g = cond (joins g.next) (bind_grown (more g.ahead g.machine) (joined_with join g.term)) (Ok g)

abbrev mutual
  pub choice_from : ℕ → (List ℕ → Option Named) → ℕ → Ahead → Machine → Result Grown RuleFault
  choice_from zero means levels ahead machine = Err (Unfit 0)
  choice_from (suc fuel) means levels ahead machine = bind_grown (chain_from fuel means levels ahead machine) (or_more is_choosing choice (choice_from fuel means levels))

  pub chain_from : ℕ → (List ℕ → Option Named) → ℕ → Ahead → Machine → Result Grown RuleFault
  chain_from zero means levels ahead machine = Err (Unfit 0)
  chain_from (suc fuel) means levels ahead machine = bind_grown (step_from fuel means levels ahead machine) (or_more is_following chain (chain_from fuel means levels))

  pub step_from : ℕ → (List ℕ → Option Named) → ℕ → Ahead → Machine → Result Grown RuleFault
  step_from zero means levels ahead machine = Err (Unfit 0)
  step_from (suc fuel) means levels ahead machine = bind_built (unit_from fuel means levels ahead machine) (λ b. stars_from means levels b.ahead b.term b.machine)

  pub unit_from : ℕ → (List ℕ → Option Named) → ℕ → Ahead → Machine → Result Built RuleFault
  unit_from zero means levels ahead machine = Err (Unfit 0)
  unit_from (suc fuel) means levels ahead machine =
      bind_pulled (pull means levels ahead machine) (λ p. unit_at means (unit_from fuel means (levels - 1)) (choice_from fuel means (levels - 1)) p.mark p.ahead p.machine)

-- How many signs lie ahead.
abbrev pub signs_left : Ahead → ℕ
signs_left (sign m ahead) = suc (signs_left ahead)
signs_left (over place) = 0
signs_left (faulty fault) = 0

abbrev pub term_of : Grown → Result Term RuleFault
term_of g = Ok g.term

-- What lies ahead, read whole: a choice, with at most 32 levels open, up to the end.
abbrev pub read_ahead : (List ℕ → Option Named) → Ahead → Result Term RuleFault
read_ahead means ahead = bind_grown (choice_from (signs_left ahead * 4 + 4) means 32 ahead fresh) term_of
