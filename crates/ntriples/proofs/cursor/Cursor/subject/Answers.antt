use Rattle.std.proofs.Common.{get_or, refl, arith}
use Rattle.grammar.specs.Scanner.{verb, first, start, iri, under, in_line}
use Rattle.grammar.proofs.Steps.{stuck_at, by_byte}
use Rattle.grammar.proofs.Moves.{no_start}
use Rattle.ntriples.proofs.TermKinds.{term-in_line}
use Rattle.ntriples.proofs.cursor.Cursor.subject.Goals as goal
use Rattle.ntriples.proofs.cursor.Cursor.subject.Goals.{in_default-via-in-Some+in_default, in_default-via-in_default}

pub returns-in-Some-eq60-clause-goes : goal.returns-in-Some-eq60-clause-goes
returns-in-Some-eq60-clause-goes c =
    let bs = c.args.self.line.now in
    let here = c.in-Some-eq60.ensures in
    λ s h. term-in_line s bs verb c.term.result
    (c.term.ensures.goes s verb (iri verb) refl (by_byte s bs c.args.self.pos 60 start (iri verb) h here.0 (omega (arith, here.1)) refl))

pub returns-in-Some-eq95-clause-goes : goal.returns-in-Some-eq95-clause-goes
returns-in-Some-eq95-clause-goes c =
    let bs = c.args.self.line.now in
    let here = c.in-Some-eq95.ensures in
    λ s h. term-in_line s bs verb c.term-in-Some-eq95.result
    (c.term-in-Some-eq95.ensures.goes s verb (under first) (first, refl, refl) (by_byte s bs c.args.self.pos 95 start (under first) h here.0 (omega (arith, here.1)) refl))

pub returns-in_default-clause-goes : goal.returns-in_default-clause-goes
returns-in_default-clause-goes c =
    let bs = c.args.self.line.now in
    let pos = c.args.self.pos in
    let here = c.requires.here in
    λ s h. c.stuck.ensures.halts in_line s (stuck_at in_line s bs pos start h refl (λ l.
    elim c.in_default.branch [
      | in_default-via-in-Some+in_default w ↦ (let byte = w.in_default.ensures in no_start (get_or bs pos 0) here.1 here.2 (λ e. omega (arith, byte.1)) (λ e. omega (arith, byte.1)))
      | in_default-via-in_default w ↦ absurd (let end = rw w.in_default.is at c.peek.ensures in omega (arith, end))
    ]) (λ e. absurd (omega (arith, here.0))))
