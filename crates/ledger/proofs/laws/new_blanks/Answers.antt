use Rattle.ledger.proofs.Labels.{new_blanks}
use Rattle.ledger.proofs.laws.new_blanks.Goals as goal

pub returns : goal.returns
returns c = new_blanks
