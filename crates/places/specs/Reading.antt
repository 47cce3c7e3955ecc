-- The text of a rule on a sheet, the flow that it gives, and the runs that this allows.
use Rattle.std.specs.Prelude.{◌≡◌, ℕ, true, cond, List, length, Ok, Err, Option, Result, nat_lt}
use Rattle.grammar.specs.Derivations.{Rule}
use Rattle.grammar.specs.declared.fault.RuleFault.{RuleFault}
use Rattle.grammar.specs.declared.fault.RuleFault.TheVariants.{NoRoom}
use Rattle.kat.specs.Algebra.{Allowed}
use Rattle.kat.specs.Terms.{Term, size}
use Rattle.rules.specs.Rules.{read_text}
use Rattle.runs.specs.Flows.{FlowMeaning, allows}
use Rattle.runs.specs.Runs.{Run, Within}
use Rattle.sheet.specs.Laid.{LaidOut}
use Rattle.sheet.specs.Naming.{meaning_of}
use Rattle.sheet.specs.declared.named.Named.{Named}
use Rattle.signs.specs.Signs.{Mark, signs_of}
use Rattle.places.specs.Meaning.{places_on, rule_meaning}
use Rattle.places.specs.declared.flow.RuleFlow.{RuleFlow}

-- What bytes name on a sheet, if they are a name on it.
abbrev pub means_on : LaidOut → List ℕ → Option Named
means_on laid = meaning_of laid.names

-- The term that a text is on a sheet, or its refusal.
abbrev pub text_on : LaidOut → List ℕ → Result Term RuleFault
text_on laid text = read_text (means_on laid) text

-- The flow that a rule's text gives, with so many nodes to lay it out in: that of the places of its term, or the refusal.
abbrev pub flow_within : LaidOut → ℕ → Result Term RuleFault → Result FlowMeaning RuleFault
flow_within laid room (Ok e) = cond (nat_lt room (size e)) (Err NoRoom) (Ok (places_on laid e))
flow_within laid room (Err fault) = Err fault

abbrev pub flow_on : LaidOut → ℕ → List ℕ → Result FlowMeaning RuleFault
flow_on laid room text = flow_within laid room (text_on laid text)

-- An answer with the flow in it replaced by what it means.
abbrev pub meant : Result RuleFlow RuleFault → Result FlowMeaning RuleFault
meant (Ok flow) = Ok (rule_meaning flow)
meant (Err fault) = Err fault

-- The flow of a text allows a run exactly when the term that the grammar derives from the text's signs allows it, tests holding where the sheet's
-- vocabulary says: for every run within the situations and the named actions of the sheet.
pub record AllowsTheRunsOf (laid : LaidOut) (text : List ℕ) (flow : FlowMeaning) : Type 0 where
  pub signs : List Mark
  pub term : Term
  pub read : signs_of text ≡ Ok signs
  pub derived : Rule (means_on laid) signs term
  pub no_more : (run : Run) → Within laid.meaning.situations (length laid.names.actions) run → allows flow run ≡ true → Allowed laid.meaning.holds term run
  pub no_less : (run : Run) → Within laid.meaning.situations (length laid.names.actions) run → Allowed laid.meaning.holds term run → allows flow run ≡ true
