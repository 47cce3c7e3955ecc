-- Which runs the rule of a text allows, by the meaning and names of a book.
use Rattle.std.specs.Prelude.{◌≡◌, ℕ, Bool, true, List, length, Some, Ok, Err, Result}
use Rattle.flows.specs.Written.{allows_written}
use Rattle.grammar.specs.Derivations.{Rule}
use Rattle.grammar.specs.declared.fault.RuleFault.{RuleFault}
use Rattle.kat.specs.Algebra.{Allowed}
use Rattle.kat.specs.Terms.{Term}
use Rattle.places.specs.Reading.{flow_on}
use Rattle.runs.specs.Flows.{FlowMeaning}
use Rattle.runs.specs.Runs.{Run, Within, run_of}
use Rattle.signs.specs.Signs.{Mark, signs_of}
use Rattle.book.specs.Books.{Holdings, means_in}

-- The flow of the rule is asked, unless its text is refused.
abbrev pub asked_of : List ℕ → Result FlowMeaning RuleFault → Result Bool RuleFault
asked_of run (Ok flow) = Ok (allows_written flow run)
asked_of run (Err fault) = Err fault

-- Whether the rule of a text allows the run that bytes write down, with nodes for the longest rule.
abbrev pub allows_in : Holdings → List ℕ → List ℕ → Result Bool RuleFault
allows_in book text bytes = asked_of bytes (flow_on book.sheet 255 text)

-- The answer is yes exactly when the term that the grammar derives from the text's signs allows the run under Kleene algebra with tests, tests
-- holding where the vocabulary says: for every run within the situations and the named actions.
pub record AllowedExactly (book : Holdings) (text bytes : List ℕ) (yes : Bool) : Type 0 where
  pub signs : List Mark
  pub term : Term
  pub read : signs_of text ≡ Ok signs
  pub derived : Rule (means_in book) signs term
  pub yes_is_allowed : (run : Run) → run_of bytes ≡ Some run → Within book.sheet.meaning.situations (length book.sheet.names.actions) run
      → yes ≡ true → Allowed book.sheet.meaning.holds term run
  pub allowed_is_yes : (run : Run) → run_of bytes ≡ Some run → Within book.sheet.meaning.situations (length book.sheet.names.actions) run
      → Allowed book.sheet.meaning.holds term run → yes ≡ true
