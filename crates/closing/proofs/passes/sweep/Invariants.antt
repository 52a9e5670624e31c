use Rattle.std.proofs.Common.{◌≡◌, ℕ, ◌<◌, get_or}
use Rattle.closing.specs.Passes.{Grown, RowsClosed, RowFrom}
use Rattle.entailment.specs.declared.regime.Row.TheVariants.{RdfD2}
use Rattle.closing.proofs.passes.sweep.Given as goal

abbrev pub invariant-loop-row : goal.invariant-loop-row
invariant-loop-row g l =
    let store = g.S.TripleStore in
    let f = store.held l.initial.store in
    let h = store.held l.store in
    record {
      side : store.side_of l.store ≡ store.side_of l.initial.store;
      capacity : store.capacity_of l.store ≡ store.capacity_of l.initial.store;
      grown : Grown (RowsClosed l.fn.regime) f h;
      swept : (k : ℕ) → k < l.row-index → RowFrom (get_or l.row-items k RdfD2) f h;
    }
