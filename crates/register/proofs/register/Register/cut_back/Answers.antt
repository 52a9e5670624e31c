use Rattle.register.proofs.Keeping.{struck}
use Rattle.register.proofs.register.Register.cut_back.Goals as goal

pub invariant_of-self : goal.invariant_of-self
invariant_of-self c = let s = c.self.inside in struck s.names s.triples s.len s.mark c.in-Some.mark c.cut.new.self c.in-Some.is c.cut.ensures c.self.invariant
