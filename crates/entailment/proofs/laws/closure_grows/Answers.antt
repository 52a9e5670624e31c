use Rattle.entailment.proofs.Growing.{grows}
use Rattle.entailment.proofs.laws.closure_grows.Goals as goal

pub returns : goal.returns
returns c = grows
