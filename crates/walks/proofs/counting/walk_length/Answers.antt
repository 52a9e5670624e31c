-- The walk gives each triple that fits once.
use Rattle.std.proofs.Common.{refl, ◌∙◌}
use Rattle.walks.proofs.Matching.{selected, walk_of}
use Rattle.walks.proofs.Giving.{gives_all}
use Rattle.walks.proofs.counting.walk_length.Goals as goal

pub returns : goal.returns
returns g c =
    let store = g.S.TripleStore in
    let walk = c.args.walk in
    let s = walk.store.now in
    let p = walk.question.pattern in
    let w = walk_of (store.side_of s) (store.capacity_of s) (store.held s) p (store.lawful s) in
    let ran = c.count.ensures.ran in (
      selected (store.held s) p,
      w.chosen,
      ran.2 ∙ gives_all store.held w ran.0 walk refl (λ i. record { lowest = c.requires i; pattern = p }) ran.1,
    )
