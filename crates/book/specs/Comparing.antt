-- The flows of two texts, the one on the left read first.
use Rattle.std.specs.Prelude.{ℕ, List, Ok, Err, Result}
use Rattle.grammar.specs.declared.fault.RuleFault.{RuleFault}
use Rattle.places.specs.Meaning.{rule_meaning}
use Rattle.places.specs.Reading.{flow_on}
use Rattle.runs.specs.Flows.{FlowMeaning}
use Rattle.walk.specs.declared.fault.WalkFault.{WalkFault}
use Rattle.book.specs.Books.{Holdings}
use Rattle.book.specs.declared.compared.Compared.{Compared}
use Rattle.book.specs.declared.fault.TextFault.{TextFault}
use Rattle.book.specs.declared.fault.TextFault.TheVariants.{Left, Right, Walk}

-- The flows of a text on the left and of one on the right.
pub record TwoFlows : Type 0 where
  pub left : FlowMeaning
  pub right : FlowMeaning

-- Both flows, unless a text is refused. Where both are, the left one's refusal is told.
abbrev pub both_of : Result FlowMeaning RuleFault → Result FlowMeaning RuleFault → Result TwoFlows TextFault
both_of (Err fault) right = Err (Left fault)
both_of (Ok f) (Err fault) = Err (Right fault)
both_of (Ok f) (Ok g) = Ok (record { left = f; right = g })

-- The flows of two texts by the names and the meaning of a book, with nodes for the longest rule.
abbrev pub flows_in : Holdings → List ℕ → List ℕ → Result TwoFlows TextFault
flows_in book left right = both_of (flow_on book.sheet 255 left) (flow_on book.sheet 255 right)

-- An answer with the flows in it replaced by what they mean.
abbrev pub meant_both : Result Compared TextFault → Result TwoFlows TextFault
meant_both (Ok both) = Ok (record { left = rule_meaning both.left; right = rule_meaning both.right })
meant_both (Err fault) = Err fault

-- An answer of the walk or of the check, its refusal told as one of the walk.
abbrev pub by_walk : {A : Type 0} → Result A WalkFault → Result A TextFault
by_walk (Ok x) = Ok x
by_walk (Err fault) = Err (Walk fault)
