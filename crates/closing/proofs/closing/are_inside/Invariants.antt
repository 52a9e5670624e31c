use Rattle.std.proofs.Common.{ℕ, ◌<◌, get_or}
use Rattle.triples.specs.declared.triple.Triple.{Triple}
use Rattle.triples.specs.Codes.{Inside}
use Rattle.closing.proofs.closing.are_inside.Given as goal

abbrev pub invariant-loop-triple : goal.invariant-loop-triple
invariant-loop-triple l = (k : ℕ) (d : Triple) → k < l.triple-index → Inside l.bound (get_or l.kept k d)
