use Rattle.entailment.proofs.Counting.{exceeds_by_size}
use Rattle.entailment.proofs.laws.exceeds_by_size.Goals as goal

pub returns : goal.returns
returns c = exceeds_by_size
