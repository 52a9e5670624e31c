use Rattle.ledger.proofs.Labels.{one_blank}
use Rattle.ledger.proofs.laws.one_blank.Goals as goal

pub returns : goal.returns
returns c = one_blank
