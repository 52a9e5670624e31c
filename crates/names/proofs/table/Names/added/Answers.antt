use Rattle.std.proofs.Common.{length, sym, ap, ◌∙◌, arith}
use Rattle.names.proofs.Packed.{length-packed}
use Rattle.names.proofs.table.Names.added.Goals as goal

pub returns : goal.returns
returns c =
    let s = c.self.inside in
    record {
      counts = sym (length-packed s.bytes s.used s.spans s.len c.self.invariant) ∙ ap length c.self.view_is;
      most = omega (arith, c.self.invariant.within);
    }
