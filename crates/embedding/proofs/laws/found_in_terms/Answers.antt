use Rattle.embedding.proofs.InTerms.{found_in_terms as it}
use Rattle.embedding.proofs.laws.found_in_terms.Goals as goal

pub returns : goal.returns
returns c = it
