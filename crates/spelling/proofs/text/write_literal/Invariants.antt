use Rattle.std.proofs.Common.{length}
use Rattle.grammar.specs.Readings.{a_literal}
use Rattle.spelling.specs.Names.{Name, Denotes}
use Rattle.spelling.proofs.Turns.{Halfway}
use Rattle.spelling.proofs.text.write_literal.Given as goal

abbrev pub invariant-loop-byte : goal.invariant-loop-byte
invariant-loop-byte l = (n : Name) → Denotes a_literal l.text n → Halfway l.rest l.writer n

abbrev pub decreases-loop-byte : goal.decreases-loop-byte
decreases-loop-byte l = length l.rest
