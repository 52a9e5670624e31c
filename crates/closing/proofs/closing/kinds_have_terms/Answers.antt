use Rattle.closing.proofs.KindsOfTerms.{kinds_have_terms}
use Rattle.closing.proofs.closing.kinds_have_terms.Goals as goal

pub returns : goal.returns
returns c = kinds_have_terms
