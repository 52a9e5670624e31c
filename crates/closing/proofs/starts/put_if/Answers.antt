use Rattle.std.proofs.Common.{◌≡◌, true}
use Rattle.closing.specs.Passes.{Holds}
use Rattle.closing.proofs.Growing.{outcome_fewer}
use Rattle.closing.proofs.starts.put_if.Goals as goal

pub returns-then-wanted-clause-puts : goal.returns-then-wanted-clause-puts
returns-then-wanted-clause-puts g c =
    let store = g.S.TripleStore in
    let a = c.args in
    let h = store.held c.put.new.store in
    outcome_fewer (Holds a.triple) (λ f. a.wanted ≡ true → f a.triple ≡ true) (Holds a.triple h) (a.wanted ≡ true → h a.triple ≡ true) (store.capacity_of c.put.new.store) (store.held a.store.now) h
    (λ other d w. d c.if-wanted.true) (λ d w. d) c.put.result c.put.ensures.puts
