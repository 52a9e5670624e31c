use Rattle.ledger.proofs.Striking.{strike_restores}
use Rattle.ledger.proofs.laws.strike_restores.Goals as goal

pub returns : goal.returns
returns c = strike_restores
