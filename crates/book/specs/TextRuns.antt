-- Which runs a text allows, in the words of signs, grammar and Kleene algebra with tests.
use Rattle.std.specs.Prelude.{◌≡◌, ℕ, true, List, length, Ok}
use Rattle.grammar.specs.Derivations.{Rule}
use Rattle.kat.specs.Algebra.{Allowed}
use Rattle.kat.specs.Terms.{Term}
use Rattle.runs.specs.Flows.{FlowMeaning, allows}
use Rattle.runs.specs.Runs.{Run, Within}
use Rattle.signs.specs.Signs.{Mark, signs_of}
use Rattle.book.specs.Books.{Holdings, means_in}

-- A run of the situations and the named actions of a book.
abbrev pub InRange : Holdings → Run → Type 0
InRange book run = Within book.sheet.meaning.situations (length book.sheet.names.actions) run

-- A text allows a run where it has signs, they are a rule by the names of the book, and the term of this rule allows the run, tests holding where the
-- vocabulary says.
abbrev pub TextAllows : Holdings → List ℕ → Run → Type 0
TextAllows book text run =
    (signs : List Mark) × (e : Term) × (signs_of text ≡ Ok signs) × Rule (means_in book) signs e × Allowed book.sheet.meaning.holds e run

-- One text allows the run exactly when the other does.
abbrev pub AllowAlike : Holdings → List ℕ → List ℕ → Run → Type 0
AllowAlike book left right run = (TextAllows book left run → TextAllows book right run) × (TextAllows book right run → TextAllows book left run)

-- Two texts allow the same runs.
abbrev pub SameTextRuns : Holdings → List ℕ → List ℕ → Type 0
SameTextRuns book left right = (run : Run) → InRange book run → AllowAlike book left right run

-- A flow is that of a text where it has the situations and the named actions of the book, and allows exactly the runs that the text allows.
pub record FlowOfText (book : Holdings) (text : List ℕ) (flow : FlowMeaning) : Type 0 where
  pub situations : flow.situations ≡ book.sheet.meaning.situations
  pub actions : flow.actions ≡ length book.sheet.names.actions
  pub no_more : (run : Run) → InRange book run → allows flow run ≡ true → TextAllows book text run
  pub no_less : (run : Run) → InRange book run → TextAllows book text run → allows flow run ≡ true
