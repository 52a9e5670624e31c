-- What is so at every turn, and the number that falls.
use Rattle.std.proofs.Common.{◌≤◌, length}
use Rattle.stacks.specs.Piles.{pile}
use Rattle.embedding.proofs.Standing.{State}
use Rattle.embedding.proofs.Remaining.{left_at}
use Rattle.embedding.proofs.search.seek.Given as goal

abbrev pub invariant-loop-place : goal.invariant-loop-place
invariant-loop-place g l = record {
  room : length l.goal ≤ length l.choices.slots.now;
  state : State (g.S.TripleStore.side_of l.store) (g.S.TripleStore.held l.store) l.goal l.bindings (pile l.choices.len l.choices.slots.now) l.place;
}

abbrev pub decreases-loop-place : goal.decreases-loop-place
decreases-loop-place g l = left_at l.goal l.bindings (pile l.choices.len l.choices.slots.now) l.place
