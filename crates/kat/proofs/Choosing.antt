-- What holds both sides of a choice holds the choice. Serves the laws of chain.
use Rattle.std.proofs.Common.{inl, inr}
use Rattle.kat.specs.Laws.{Holds, Within}
use Rattle.kat.specs.Terms.{Term, choice}

pub choice_least : (holds : Holds) (e f g : Term) → Within holds e g → Within holds f g → Within holds (choice e f) g
choice_least holds e f g a b run (inl h) = a run h
choice_least holds e f g a b run (inr h) = b run h
