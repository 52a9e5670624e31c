use Rattle.entailment.proofs.Saturation.{closure_exists}
use Rattle.entailment.proofs.laws.closure_exists.Goals as goal

pub returns : goal.returns
returns c = closure_exists
