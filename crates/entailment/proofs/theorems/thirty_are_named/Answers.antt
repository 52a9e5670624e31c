use Rattle.std.proofs.Common.{refl}
use Rattle.entailment.specs.Terms.{rdf, rdfs, thirty}
use Rattle.entailment.proofs.theorems.thirty_are_named.Goals as goal

-- antt computes each row
pub returns : goal.returns
unfolding thirty rdf rdfs
returns c =
    (refl, refl, refl, refl, refl, refl, refl, refl, refl, refl, refl, refl, refl, refl, refl, refl, refl, refl, refl, refl, refl, refl, refl, refl, refl, refl, refl, refl, refl, refl, refl, refl, refl)
