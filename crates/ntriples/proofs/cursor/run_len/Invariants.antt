use Rattle.std.proofs.Common.{◌≡◌, ℕ, ◌<◌, true, get_or}
use Rattle.grammar.specs.Regular.{inside}
use Rattle.ntriples.proofs.cursor.run_len.Given as goal

abbrev pub invariant-loop-i : goal.invariant-loop-i
invariant-loop-i g l = (k : ℕ) → k < l.i → inside g.C.Class.ranges (get_or l.text k 0) ≡ true
