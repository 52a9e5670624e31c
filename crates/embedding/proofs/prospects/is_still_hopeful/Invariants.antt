-- Each row before this one has a prospect.
use Rattle.std.proofs.Common.{take}
use Rattle.embedding.specs.Searching.{Hopeful}
use Rattle.embedding.proofs.prospects.is_still_hopeful.Given as goal

abbrev pub invariant-loop-row : goal.invariant-loop-row
invariant-loop-row g l = Hopeful (g.S.TripleStore.held l.store) (take l.row-index l.goal) l.bindings
