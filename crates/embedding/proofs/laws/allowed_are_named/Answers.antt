use Rattle.embedding.proofs.NamedRows.{allowed_are_named as it}
use Rattle.embedding.proofs.laws.allowed_are_named.Goals as goal

pub returns : goal.returns
returns c = it
