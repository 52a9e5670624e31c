use Rattle.std.proofs.Common.{◌≡◌, ℕ, ◌<◌, true, get_or}
use Rattle.entailment.specs.Rows.{triple}
use Rattle.closing.specs.declared.kinds.TermKind.TheVariants.{Blank}
use Rattle.closing.specs.Passes.{Grown}
use Rattle.closing.specs.Seeds.{all_kinds, picks, HoldsEach}
use Rattle.closing.proofs.starts.put_each.Given as goal

abbrev pub invariant-loop-number : goal.invariant-loop-number
invariant-loop-number g l =
    let store = g.S.TripleStore in
    let h = store.held l.store in
    record {
      side : store.side_of l.store ≡ store.side_of l.initial.store;
      capacity : store.capacity_of l.store ≡ store.capacity_of l.initial.store;
      grown : Grown (HoldsEach l.which l.predicate l.object l.more) (store.held l.initial.store) h;
      put : (k : ℕ) → k < l.number → picks l.which (get_or (all_kinds l.more) k Blank) ≡ true → h (triple k l.predicate l.object) ≡ true;
    }
