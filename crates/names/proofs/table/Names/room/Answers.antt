use Rattle.std.proofs.Common.{arith, ap}
use Rattle.names.specs.Terms.{spelled_bytes}
use Rattle.names.proofs.Packed.{bytes-packed}
use Rattle.names.proofs.table.Names.room.Goals as goal

pub returns : goal.returns
returns c =
    let s = c.self.inside in
    omega (arith, ap spelled_bytes c.self.view_is, bytes-packed s.bytes s.used s.spans s.len c.self.invariant, c.self.invariant.within)
