use Rattle.std.proofs.Common.{ℕ, ◌+◌, set, sym, ap, subst, arith}
use Rattle.names.specs.Terms.{spelled_bytes}
use Rattle.names.specs.Spans.{IsPacked}
use Rattle.names.proofs.Packed.{bytes-packed, one-spans, terms_in-packed, IsPacked-push}
use Rattle.names.proofs.table.Names.push.Goals as goal

pub write-span-requires-clause-room : goal.write-span-requires-clause-room
write-span-requires-clause-room c =
    let s = c.self.inside in
    omega (arith, c.requires.fits, ap spelled_bytes c.self.view_is, bytes-packed s.bytes s.used s.spans s.len c.self.invariant, c.self.invariant.sizes)

pub bounds-self-inside-self-inside : goal.bounds-self-inside-self-inside
bounds-self-inside-self-inside c =
    let s = c.self.inside in
    let w = c.write-span.ensures in
    omega (arith, one-spans s.bytes s.used s.spans s.len c.self.invariant c.args.self.now c.self.view_is c.write-span.new.bytes c.write-span.result c.args.spelling.now c.requires.few w.kept w.written, c.self.invariant.sizes)

pub invariant_of-self : goal.invariant_of-self
invariant_of-self c =
    let s = c.self.inside in
    let w = c.write-span.ensures in
    subst (λ (used : ℕ). IsPacked c.write-span.new.bytes used (set s.spans s.len c.write-span.result) (s.len + 1)) (sym c.from-self-inside.ensures)
    (IsPacked-push s.bytes s.used s.spans s.len c.self.invariant c.args.self.now c.self.view_is c.write-span.new.bytes c.write-span.result c.args.spelling.now c.requires.few w.kept w.written
    w.starts w.ends (omega arith) c.requires.fits c.requires.lawful c.requires.unknown)

pub returns : goal.returns
returns c =
    let s = c.self.inside in
    let w = c.write-span.ensures in
    record {
      last = terms_in-packed s.bytes s.used s.spans s.len c.self.invariant c.args.self.now c.self.view_is c.write-span.new.bytes c.write-span.result c.args.spelling.now c.requires.few w.kept w.written;
      number = c.len-number.ensures.counts;
    }
