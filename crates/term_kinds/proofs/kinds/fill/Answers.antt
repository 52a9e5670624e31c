use Rattle.std.proofs.Common.{arith}
use Rattle.names.specs.Calls.{term_of}
use Rattle.names.specs.Terms.{all_terms}
use Rattle.term_kinds.proofs.Filling.{fill_more}
use Rattle.term_kinds.proofs.kinds.fill.Goals as goal

pub loop-number-preserved : goal.loop-number-preserved
loop-number-preserved g c =
    fill_more g.K.KindOfTerm.kind (all_terms c.args.names.now) c.args.first c.loop-number.number c.loop-number.kinds c.of.result (term_of c.in-Some.view)
    (omega arith) (omega (arith, c.len-number-end.ensures.counts)) (omega (arith, c.requires, c.loop-number.auto.kinds)) c.in-Some.ensures c.of.ensures c.loop-number.invariant
