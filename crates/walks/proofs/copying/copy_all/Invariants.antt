-- The triples below the lowest code that the walk asks for are in.
use Rattle.std.proofs.Common.{◌≡◌}
use Rattle.triples.specs.Sets.{union}
use Rattle.triples.specs.Questions.{free}
use Rattle.walks.specs.Copies.{below}
use Rattle.walks.proofs.copying.copy_all.Given as goal

abbrev pub invariant-loop-triple : goal.invariant-loop-triple
invariant-loop-triple g l =
    let f = g.S.TripleStore.held l.from in
    let to = g.R.TripleStore in
    let walk = l.triple-iterator in record {
      over : walk.store.now ≡ l.from;
      pattern : walk.question.pattern ≡ free;
      side : to.side_of l.to ≡ to.side_of l.initial.to;
      capacity : to.capacity_of l.to ≡ to.capacity_of l.initial.to;
      copied : to.held l.to ≡ union (below walk.question.lowest f) (to.held l.initial.to);
    }
