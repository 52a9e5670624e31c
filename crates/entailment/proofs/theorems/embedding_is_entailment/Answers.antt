use Rattle.entailment.proofs.Equivalence.{entailment}
use Rattle.entailment.proofs.theorems.embedding_is_entailment.Goals as goal

pub returns : goal.returns
returns c = entailment
