use Rattle.entailment.proofs.ExampleCertificates.{examples_hold}
use Rattle.entailment.proofs.examples.examples_hold.Goals as goal

pub returns : goal.returns
returns c = examples_hold
