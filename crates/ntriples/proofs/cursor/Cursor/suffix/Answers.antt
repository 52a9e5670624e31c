use Rattle.std.proofs.Common.{refl, arith}
use Rattle.grammar.specs.Scanner.{quoted, at, caret}
use Rattle.grammar.proofs.Steps.{by_byte}
use Rattle.ntriples.proofs.cursor.Cursor.suffix.Goals as goal

pub returns-in-Some-eq64-clause-goes : goal.returns-in-Some-eq64-clause-goes
returns-in-Some-eq64-clause-goes c = let here = c.in-Some-eq64.ensures in λ s h. c.tag.ensures.goes s (by_byte s c.args.self.line.now c.args.self.pos 64 quoted at h here.0 (omega (arith, here.1)) refl)

pub returns-in-Some-eq94-clause-goes : goal.returns-in-Some-eq94-clause-goes
returns-in-Some-eq94-clause-goes c = let here = c.in-Some-eq94.ensures in λ s h. c.datatype.ensures.goes s (by_byte s c.args.self.line.now c.args.self.pos 94 quoted caret h here.0 (omega (arith, here.1)) refl)
