-- A refusal that is handed on, as it is seen by values.
use Rattle.std.proofs.Common.{◌≡◌, Err, Result, ap, ◌∙◌}
use Rattle.std.proofs.lemmas.Result.{err_from_is_err_and}
use Rattle.std.specs.Result.{IsErrAnd}
use Rattle.grammar.specs.declared.fault.RuleFault.{RuleFault}
use Rattle.rules.specs.Builders.{built_of, grown_of}
use Rattle.rules.specs.declared.part.Built.{Built}
use Rattle.rules.specs.declared.part.Grown.{Grown}
use Rattle.rules.specs.declared.reader.Reader.{Reader}

pub grown_refused : (r : Result Grown RuleFault) (a : Reader) (fault : RuleFault) → IsErrAnd r (λ y. y ≡ fault) → grown_of r a ≡ Err fault
grown_refused r a fault h = let p = err_from_is_err_and r h in ap (λ r. grown_of r a) p.1 ∙ ap Err p.2

pub built_refused : (r : Result Built RuleFault) (a : Reader) (fault : RuleFault) → IsErrAnd r (λ y. y ≡ fault) → built_of r a ≡ Err fault
built_refused r a fault h = let p = err_from_is_err_and r h in ap (λ r. built_of r a) p.1 ∙ ap Err p.2
