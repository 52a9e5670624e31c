use Rattle.std.proofs.Common.{◌≡◌, true, get_or, arith}
use Rattle.grammar.specs.Regular.{inside}
use Rattle.grammar.specs.Productions.{uchar_letter}
use Rattle.grammar.specs.Scanner.{in_term}
use Rattle.grammar.proofs.Steps.{halt_letter, escape_stuck}
use Rattle.ntriples.proofs.cursor.Cursor.stuck_escape.Goals as goal
use Rattle.ntriples.proofs.cursor.Cursor.stuck_escape.Goals.{in_default-via-in-Some+else-contains, in_default-via-in_default}

pub returns-in-Some-clause-halts : goal.returns-in-Some-clause-halts
returns-in-Some-clause-halts c =
    let i : inside uchar_letter (get_or c.args.self.line.now c.args.self.pos 0) ≡ true = cc (c.in-Some.ensures.1) in
    λ s h. halt_letter s c.args.self.line.now c.args.self.pos h (omega (arith, c.in-Some.ensures)) i

pub returns-in_default-clause-halts : goal.returns-in_default-clause-halts
returns-in_default-clause-halts c = λ s h. c.stuck.ensures.halts in_term s (escape_stuck s c.args.self.line.now c.args.self.pos h (λ l.
    elim c.in_default.branch [ in_default-via-in-Some+else-contains w ↦ cc (w.in-Some.ensures.1) | in_default-via-in_default w ↦ absurd (omega (arith, w.in_default.ensures)) ]))
