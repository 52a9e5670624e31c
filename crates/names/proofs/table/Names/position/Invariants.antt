-- No number before this one is of a name with the spelling.
use Rattle.std.proofs.Common.{ℕ, ◌<◌}
use Rattle.names.specs.Terms.{all_terms, IsNumberOf}
use Rattle.names.proofs.table.Names.position.Given as goal

abbrev pub invariant-loop-number : goal.invariant-loop-number
invariant-loop-number l = (k : ℕ) → k < l.number → ¬ IsNumberOf l.spelling (all_terms l.self) k
