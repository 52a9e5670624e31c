use Rattle.std.proofs.Common.{ℕ, length, take, sym, ap, ◌∙◌, subst, arith}
use Rattle.std.proofs.lemmas.List.{take_all}
use Rattle.names.specs.Spans.{IsPacked}
use Rattle.names.proofs.Packed.{length-packed, terms_in-take, IsPacked-cut}
use Rattle.names.proofs.table.Names.truncate.Goals as goal

pub invariant_of-self : goal.invariant_of-self
invariant_of-self c =
    let s = c.self.inside in
    subst (λ (used : ℕ). IsPacked s.bytes used s.spans c.args.n) (sym c.from-self-inside.ensures)
    (IsPacked-cut s.bytes s.used s.spans s.len c.self.invariant c.args.n (record { start = 0; end = 0 }) c.if-n-self.true)

pub returns-then-n-self : goal.returns-then-n-self
returns-then-n-self c =
    let s = c.self.inside in
    terms_in-take s.bytes c.args.n s.len s.spans (omega arith)
    ∙ ap (take c.args.n) c.self.view_is

pub returns-else-n-self : goal.returns-else-n-self
returns-else-n-self c =
    let s = c.self.inside in
    sym (take_all (c.args.n) c.args.self.now
    (omega (arith, length-packed s.bytes s.used s.spans s.len c.self.invariant, ap length c.self.view_is)))
