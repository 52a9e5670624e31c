use Rattle.std.proofs.Common.{◌≡◌, ◌≤◌, ◌<◌, ◌∙◌, ⊎_elim, arith}
use Rattle.std.proofs.lemmas.Bool.{cases_lt, both_ways}
use Rattle.triples.specs.Sets.{size}
use Rattle.triples.proofs.Lawfulness.{lawful-inside}
use Rattle.closing.specs.Passes.{RowsClosed}
use Rattle.closing.proofs.Growing.{grown_on, spilt_on, broken}
use Rattle.closing.proofs.Insides.{stays_inside}
use Rattle.closing.proofs.Sweeping.{still}
use Rattle.closing.proofs.passes.saturate.Goals as goal

pub loop-preserved : goal.loop-preserved
loop-preserved g c =
    let i = c.loop.invariant in
    let e = c.in_ok-sweep_adds.ensures in
    record { side = e.side ∙ i.side; capacity = e.capacity ∙ i.capacity; grown = grown_on i.grown e.sweeps.0 }

pub loop-smaller : goal.loop-smaller
loop-smaller g c =
    let store = g.S.TripleStore in
    let h = store.held c.loop.store in
    let k = store.held c.sweep_adds.new.store in
    let e = c.in_ok-sweep_adds.ensures in
    let more : size h < size k = e.sweeps.2.0 c.if-branch.true in
    let room : size k ≤ store.capacity_of c.sweep_adds.new.store = (store.lawful c.sweep_adds.new.store).few in
    let same : store.capacity_of c.sweep_adds.new.store ≡ store.capacity_of c.loop.store = e.capacity in
    omega arith

pub returns-in_err-sweep_adds-clause-saturates : goal.returns-in_err-sweep_adds-clause-saturates
returns-in_err-sweep_adds-clause-saturates g c =
    let store = g.S.TripleStore in
    let k = store.held c.sweep_adds.new.store in
    let i = c.loop.invariant in
    let e = c.in_err-sweep_adds.ensures in
    broken (RowsClosed c.args.regime) (RowsClosed c.args.regime k) (store.capacity_of c.sweep_adds.new.store) (store.held c.args.store.now) k c.from_residual.result c.from_residual.ensures.0
    (grown_on i.grown e.sweeps.0) (spilt_on i.grown e.sweeps.1)

pub returns-clause-saturates : goal.returns-clause-saturates
returns-clause-saturates g c =
    let store = g.S.TripleStore in
    let h = store.held c.loop.store in
    let s = c.sweep_adds.new.store in
    let k = store.held s in
    let e = c.in_ok-sweep_adds.ensures in
    let less : size k ≤ size h = ⊎_elim (λ l. absurd (both_ways c.in_ok-sweep_adds.field-0 c.if-branch.false (e.sweeps.2.1 l))) (λ l. l) (cases_lt (size h) (size k)) in (
      grown_on c.loop.invariant.grown e.sweeps.0,
      still c.args.regime h k e.sweeps.0.keeps less (lawful-inside (store.side_of s) (store.capacity_of s) k (store.lawful s)) e.sweeps.1,
    )

pub sweep_adds-requires-clause-inside : goal.sweep_adds-requires-clause-inside
sweep_adds-requires-clause-inside g c =
    let store = g.S.TripleStore in
    stays_inside c.args.regime c.args.terms (store.held c.args.store.now) (store.held c.loop.store) c.requires.enough c.loop.invariant.grown c.requires.inside
