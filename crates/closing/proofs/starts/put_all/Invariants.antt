use Rattle.std.proofs.Common.{◌≡◌, ℕ, ◌<◌, true, get_or}
use Rattle.triples.specs.declared.triple.Triple.{Triple}
use Rattle.closing.specs.Passes.{Grown, HoldsAll}
use Rattle.closing.proofs.starts.put_all.Given as goal

abbrev pub invariant-loop-triple : goal.invariant-loop-triple
invariant-loop-triple g l =
    let store = g.S.TripleStore in
    let h = store.held l.store in
    record {
      side : store.side_of l.store ≡ store.side_of l.initial.store;
      capacity : store.capacity_of l.store ≡ store.capacity_of l.initial.store;
      grown : Grown (HoldsAll l.list) (store.held l.initial.store) h;
      put : (k : ℕ) (d : Triple) → k < l.triple-index → h (get_or l.list k d) ≡ true;
    }
