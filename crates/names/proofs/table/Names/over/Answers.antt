use Rattle.std.proofs.Common.{refl, arith}
use Rattle.names.specs.Spans.{terms_in}
use Rattle.names.proofs.Packed.{packed_none}
use Rattle.names.proofs.table.Names.over.Goals as goal

pub invariant_of-result : goal.invariant_of-result
invariant_of-result c = packed_none c.args.bytes c.args.spans (omega arith) (omega arith)

pub returns : goal.returns
unfolding terms_in
returns c = refl
