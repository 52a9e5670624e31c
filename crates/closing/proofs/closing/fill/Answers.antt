use Rattle.std.proofs.Common.{◌+◌, length}
use Rattle.std.proofs.ByRecursion.{All-weaker}
use Rattle.triples.specs.Codes.{Inside}
use Rattle.triples.proofs.Triples.{inside-more}
use Rattle.closing.specs.Passes.{RowsClosed}
use Rattle.closing.specs.Seeds.{HoldsSeed, HoldsClosed}
use Rattle.closing.proofs.Filling.{last_part, seed_stays}
use Rattle.closing.proofs.Insides.{seed-inside}
use Rattle.closing.proofs.closing.fill.Goals as goal

pub returns-clause-fills : goal.returns-clause-fills
returns-clause-fills g c =
    let store = g.S.TripleStore in
    let a = c.args in
    let j = store.held c.seed.new.store in
    let k = store.held c.saturate.new.store in
    let e = c.in_ok-seed.ensures.seeds in
    last_part (HoldsSeed a.regime a.more.now a.kept.now) (RowsClosed a.regime) (HoldsClosed a.regime a.more.now a.kept.now) (store.capacity_of c.saturate.new.store) (store.held a.store.now) j k
    (λ other d. d.0) (λ other d. d.1) (λ w b. (seed_stays a.regime a.more.now a.kept.now j k w e.1, b)) e.0 c.saturate.result c.saturate.ensures.saturates

pub seed-requires-clause-inside : goal.seed-requires-clause-inside
seed-requires-clause-inside g c =
    let store = g.S.TripleStore in
    let n = store.side_of c.args.store.now in
    let terms = 30 + length c.args.more.now in
    All-weaker (Inside terms) (Inside n) (λ t. inside-more terms n t c.requires.few) c.args.kept.now c.requires.inside

pub saturate-requires-clause-inside : goal.saturate-requires-clause-inside
saturate-requires-clause-inside g c =
    let store = g.S.TripleStore in
    let a = c.args in
    seed-inside a.more.now a.regime a.kept.now (store.held a.store.now) (store.held c.seed.new.store) c.requires.cleared c.requires.inside c.in_ok-seed.ensures.seeds.0
