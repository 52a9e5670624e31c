use Rattle.entailment.proofs.Saturation.{derivations_are_least}
use Rattle.entailment.proofs.laws.derivations_are_least.Goals as goal

pub returns : goal.returns
returns c = derivations_are_least
