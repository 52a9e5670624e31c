use Rattle.register.proofs.Keeping.{after_step}
use Rattle.names.specs.Terms.{most_terms}
use Rattle.ledger.specs.Steps.{bytes_step}
use Rattle.ledger.proofs.Soundness.{bytes_sound}
use Rattle.register.proofs.register.Register.add_name.Goals as goal
use Rattle.std.proofs.Common.{min, take, sym}

pub invariant_of-self : goal.invariant_of-self
invariant_of-self c =
    let s = c.self.inside in
    let n = c.intern.ensures (take s.len s.triples) s.mark in
    after_step s.names c.intern.new.names s.triples s.len s.mark (bytes_step n.lawful (min c.args.side most_terms) c.args.spelling.now) (λ l. bytes_sound n.lawful (min c.args.side most_terms) c.args.spelling.now l) c.self.invariant c.intern.result n.gives

pub returns : goal.returns
returns c = let s = c.self.inside in rw (sym c.self.view_is) (c.intern.ensures (take s.len s.triples) s.mark)
