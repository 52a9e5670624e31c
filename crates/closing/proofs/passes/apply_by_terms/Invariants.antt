use Rattle.std.proofs.Common.{◌≡◌, ℕ, ◌<◌}
use Rattle.closing.specs.Passes.{Grown, RowClosed, TermFrom}
use Rattle.closing.proofs.passes.apply_by_terms.Given as goal

abbrev pub invariant-loop-term : goal.invariant-loop-term
invariant-loop-term g l =
    let store = g.S.TripleStore in
    let f = store.held l.initial.store in
    let h = store.held l.store in
    record {
      side : store.side_of l.store ≡ store.side_of l.initial.store;
      capacity : store.capacity_of l.store ≡ store.capacity_of l.initial.store;
      grown : Grown (RowClosed l.row) f h;
      done : (k : ℕ) → k < l.term → TermFrom l.row l.part k f h;
    }
