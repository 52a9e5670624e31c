-- The best row so far is open; while there is none, the rows before this one are closed.
use Rattle.embedding.proofs.RowByRow.{Best}
use Rattle.embedding.proofs.prospects.open_row.Given as goal

abbrev pub invariant-loop-i : goal.invariant-loop-i
invariant-loop-i l = Best l.goal l.bindings l.i l.fewest l.best
