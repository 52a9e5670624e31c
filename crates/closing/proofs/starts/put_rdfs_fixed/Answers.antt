use Rattle.std.proofs.Common.{arith, List, sym, subst}
use Rattle.std.specs.List.{AllByRecursion}
use Rattle.triples.specs.declared.triple.Triple.{Triple}
use Rattle.triples.specs.Codes.{Inside}
use Rattle.closing.specs.Passes.{Outcome, HoldsAll}
use Rattle.closing.proofs.FixedTriples.{rdfs_fixed-inside}
use Rattle.closing.proofs.starts.put_rdfs_fixed.Goals as goal

pub put_all-requires : goal.put_all-requires
put_all-requires g c =
    let store = g.S.TripleStore in
    let n = store.side_of c.args.store.now in
    subst (λ (ts : List Triple). AllByRecursion (Inside n) ts) (sym c.rdfs_fixed.ensures) (rdfs_fixed-inside n (let wide = (store.lawful c.args.store.now).wide in omega arith))

pub returns-clause-puts : goal.returns-clause-puts
returns-clause-puts g c =
    let store = g.S.TripleStore in
    let k = store.held c.put_all.new.store in
    subst (λ (ts : List Triple). Outcome (HoldsAll ts) (HoldsAll ts k) (store.capacity_of c.put_all.new.store) (store.held c.args.store.now) k c.put_all.result) c.rdfs_fixed.ensures c.put_all.ensures.puts
