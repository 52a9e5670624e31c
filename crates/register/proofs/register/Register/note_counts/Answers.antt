use Rattle.register.proofs.Keeping.{noted}
use Rattle.register.proofs.register.Register.note_counts.Goals as goal

pub invariant_of-self : goal.invariant_of-self
invariant_of-self c = let s = c.self.inside in noted s.names s.triples s.len s.mark c.len-terms.result c.len-terms.ensures.counts c.self.invariant
