-- The kinds so far.
use Rattle.std.proofs.Common.{◌≡◌, ◌-◌, take, drop, map}
use Rattle.names.specs.Terms.{all_terms}
use Rattle.term_kinds.proofs.kinds.fill.Given as goal

abbrev pub invariant-loop-number : goal.invariant-loop-number
invariant-loop-number g l = take (l.number - l.first) l.kinds ≡ map g.K.KindOfTerm.kind (take (l.number - l.first) (drop l.first (all_terms l.names)))
