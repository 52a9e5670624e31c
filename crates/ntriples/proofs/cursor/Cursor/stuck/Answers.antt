use Rattle.std.proofs.Common.{arith}
use Rattle.grammar.proofs.Steps.{halt_short, halt_high, halt_other}
use Rattle.ntriples.proofs.cursor.Cursor.stuck.Goals as goal

pub returns-in-Some-128-to-255-clause-halts : goal.returns-in-Some-128-to-255-clause-halts
returns-in-Some-128-to-255-clause-halts c = λ q s h. halt_high q s c.args.self.line.now c.args.self.pos h (omega (arith, c.in-Some-128-to-255.ensures)) (omega (arith, c.in-Some-128-to-255.ensures))

pub returns-in_default-clause-halts : goal.returns-in_default-clause-halts
returns-in_default-clause-halts c = λ q s h. halt_other q s c.args.self.line.now c.args.self.pos h (omega (arith, c.in_default.ensures)) (omega (arith, c.in_default.ensures))

pub returns-in_default-2-clause-halts : goal.returns-in_default-2-clause-halts
returns-in_default-2-clause-halts c = λ q s h. halt_short q s c.args.self.line.now c.args.self.pos h (omega (arith, c.in_default.ensures))
