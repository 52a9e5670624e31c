use Rattle.ledger.proofs.Appending.{only_appended}
use Rattle.ledger.proofs.laws.only_appended.Goals as goal

pub returns : goal.returns
returns c = only_appended
