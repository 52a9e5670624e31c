use Rattle.closing.specs.Passes.{HoldsAll}
use Rattle.closing.specs.Seeds.{HoldsStart, HoldsSeed}
use Rattle.closing.proofs.Filling.{first_broken, last_part, all_stay}
use Rattle.closing.proofs.starts.seed.Goals as goal

pub returns-in_err-put_all-clause-seeds : goal.returns-in_err-put_all-clause-seeds
returns-in_err-put_all-clause-seeds g c =
    let store = g.S.TripleStore in
    let a = c.args in
    let k = store.held c.put_all.new.store in
    let seed = HoldsSeed a.regime a.more.now a.kept.now in
    first_broken (HoldsAll a.kept.now) seed (seed k) (store.capacity_of c.put_all.new.store) (store.held a.store.now) k c.from_residual.result c.from_residual.ensures.0
    (λ other d. d.0) c.in_err-put_all.ensures.puts

pub returns-clause-seeds : goal.returns-clause-seeds
returns-clause-seeds g c =
    let store = g.S.TripleStore in
    let a = c.args in
    let j = store.held c.put_all.new.store in
    let k = store.held c.put_start.new.store in
    let e = c.in_ok-put_all.ensures.puts in
    last_part (HoldsAll a.kept.now) (HoldsStart a.regime a.more.now) (HoldsSeed a.regime a.more.now a.kept.now) (store.capacity_of c.put_start.new.store) (store.held a.store.now) j k
    (λ other d. d.0) (λ other d. d.1) (λ w b. (all_stay a.kept.now j k w e.1, b)) e.0 c.put_start.result c.put_start.ensures.puts
