use Rattle.std.proofs.Common.{get_or, refl, arith}
use Rattle.grammar.specs.Scanner.{verb, thing, iri, in_line}
use Rattle.grammar.proofs.Steps.{blanks-ended}
use Rattle.grammar.proofs.Moves.{no_verb, after-byte, after_stuck}
use Rattle.ntriples.proofs.TermKinds.{term-in_line}
use Rattle.ntriples.proofs.cursor.Cursor.predicate.Goals as goal
use Rattle.ntriples.proofs.cursor.Cursor.predicate.Goals.{in_default-via-in-Some+in_default, in_default-via-in_default}

pub returns-in-Some-eq60-clause-goes : goal.returns-in-Some-eq60-clause-goes
returns-in-Some-eq60-clause-goes c =
    let bs = c.args.self.line.now in
    let from = c.past-start.result.pos in
    let start = c.past-start.ensures in
    let here = rw start.same at c.in-Some-eq60.ensures in
    let goes = rw start.same at c.term.ensures.goes in
    λ s h. term-in_line s bs thing c.term.result
    (goes s thing (iri thing) refl (after-byte s bs from verb (blanks-ended s bs _ from verb start.run h) 60 (iri thing) here.0 (omega (arith, here.1)) refl))

pub returns-in_default-clause-goes : goal.returns-in_default-clause-goes
returns-in_default-clause-goes c =
    let bs = c.args.self.line.now in
    let from = c.past-start.result.pos in
    let start = c.past-start.ensures in
    let halts = rw start.same at c.stuck.ensures.halts in
    λ s h. halts in_line s (after_stuck s bs from verb (blanks-ended s bs _ from verb start.run h) (λ l.
    elim c.in_default.branch [
      | in_default-via-in-Some+in_default w ↦ (let here = rw start.same at w.in_default.ensures in no_verb (get_or bs from 0) (start.run.past l) (λ e. omega (arith, here.1)))
      | in_default-via-in_default w ↦ absurd (let here = rw (w.in_default.is, start.same) at c.peek.ensures in omega (arith, here))
    ]))
