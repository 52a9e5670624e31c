use Rattle.std.proofs.Common.{◌≡◌}
use Rattle.closing.specs.Passes.{Grown, RowClosed, PartnersFrom}
use Rattle.closing.proofs.Walking.{Current, Walked, left}
use Rattle.closing.proofs.passes.apply_by_triples.Given as goal

abbrev pub invariant-loop-candidate : goal.invariant-loop-candidate
invariant-loop-candidate g l =
    let store = g.S.TripleStore in
    let f = store.held l.initial.store in
    let h = store.held l.store in
    record {
      side : store.side_of l.store ≡ store.side_of l.initial.store;
      capacity : store.capacity_of l.store ≡ store.capacity_of l.initial.store;
      grown : Grown (RowClosed l.row) f h;
      current : Current h l.pattern l.candidate;
      walked : Walked (λ t. PartnersFrom l.row t f h) f l.pattern l.candidate;
    }

abbrev pub decreases-loop-candidate : goal.decreases-loop-candidate
decreases-loop-candidate g l = left l.candidate
