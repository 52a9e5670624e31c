use Rattle.std.proofs.Common.{◌-◌, length, slice_get, Some, sym, ap, ◌∙◌, arith}
use Rattle.std.proofs.lemmas.Option.{slice_get_past}
use Rattle.names.specs.Terms.{all_terms, term_spelled}
use Rattle.names.proofs.Packed.{length-all_packed, inside-packed, spells-packed}
use Rattle.names.proofs.table.Names.spelling.Goals as goal

pub returns-then-place-self : goal.returns-then-place-self
returns-then-place-self c =
    let s = c.self.inside in
    let e = length-all_packed s.bytes s.used s.spans s.len c.self.invariant in
    let f = ap (λ ts. length (all_terms ts)) c.self.view_is in
    sym (slice_get_past (all_terms c.args.self.now) c.args.number (omega (arith, e, f)))

pub of-requires : goal.of-requires
of-requires c =
    let s = c.self.inside in
    let i = inside-packed s.bytes s.used s.spans s.len c.self.invariant (c.args.number - 30) (record { start = 0; end = 0 }) (omega arith) in
    (i.forward, i.within)

pub returns : goal.returns
returns c =
    let s = c.self.inside in
    ap (λ b. Some (term_spelled b)) c.of.ensures
    ∙ spells-packed s.bytes s.used s.spans s.len c.self.invariant c.args.number (record { start = 0; end = 0 }) (omega arith) (omega arith)
    ∙ ap (λ ts. slice_get (all_terms ts) c.args.number) c.self.view_is
