use Rattle.embedding.proofs.Fitting.{no_hope}
use Rattle.embedding.proofs.prospects.is_hopeful.Goals as goal

pub returns-then-is_none : goal.returns-then-is_none
returns-then-is_none g c =
    no_hope (g.S.TripleStore.held c.args.store.now) c.args.goal.now c.args.bindings.now c.loop-row.row-index c.loop-row-test.true
    c.pattern.result c.pattern.ensures c.first.result (c.if-is_none.ensures) c.first.ensures
