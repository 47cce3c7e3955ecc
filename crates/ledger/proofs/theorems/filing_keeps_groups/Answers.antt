-- One more flow at the end leaves what is found before it.
use Rattle.ledger.proofs.FilingKeeps.{filing_keeps_groups}
use Rattle.ledger.proofs.theorems.filing_keeps_groups.Goals as goal

pub returns : goal.returns
returns c = record { filing_keeps_groups = filing_keeps_groups }
