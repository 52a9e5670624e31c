use Rattle.entailment.proofs.Within.{stays_within_terms}
use Rattle.entailment.proofs.theorems.closure_stays_within_terms.Goals as goal

pub returns : goal.returns
returns c = stays_within_terms
