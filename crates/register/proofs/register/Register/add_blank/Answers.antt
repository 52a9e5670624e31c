use Rattle.register.proofs.Keeping.{after_step}
use Rattle.names.specs.Terms.{most_terms}
use Rattle.ledger.specs.Steps.{blank_step}
use Rattle.ledger.proofs.Soundness.{blank_sound}
use Rattle.register.proofs.register.Register.add_blank.Goals as goal
use Rattle.std.proofs.Common.{min}

pub invariant_of-self : goal.invariant_of-self
invariant_of-self c =
    let s = c.self.inside in
    after_step s.names c.add_blank.new.names s.triples s.len s.mark (blank_step (min c.args.side most_terms)) (λ l. blank_sound (min c.args.side most_terms) l) c.self.invariant c.add_blank.result (c.add_blank.ensures _ _)
