use Rattle.embedding.proofs.InTerms.{embeds_in_terms as it}
use Rattle.embedding.proofs.laws.embeds_in_terms.Goals as goal

pub returns : goal.returns
returns c = it
