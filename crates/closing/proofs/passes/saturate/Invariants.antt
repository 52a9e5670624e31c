use Rattle.std.proofs.Common.{◌≡◌, ◌-◌}
use Rattle.triples.specs.Sets.{size}
use Rattle.closing.specs.Passes.{Grown, RowsClosed}
use Rattle.closing.proofs.passes.saturate.Given as goal

abbrev pub invariant-loop : goal.invariant-loop
invariant-loop g l =
    let store = g.S.TripleStore in
    record {
      side : store.side_of l.store ≡ store.side_of l.initial.store;
      capacity : store.capacity_of l.store ≡ store.capacity_of l.initial.store;
      grown : Grown (RowsClosed l.regime) (store.held l.initial.store) (store.held l.store);
    }

abbrev pub decreases-loop : goal.decreases-loop
decreases-loop g l = let store = g.S.TripleStore in store.capacity_of l.store - size (store.held l.store)
