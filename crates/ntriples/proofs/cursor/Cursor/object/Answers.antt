use Rattle.std.proofs.Common.{get_or, refl, arith}
use Rattle.grammar.specs.Scanner.{thing, dot, last, iri, under, string, in_line}
use Rattle.grammar.proofs.Steps.{blanks-ended}
use Rattle.grammar.proofs.Moves.{no_thing, after-byte, after_stuck}
use Rattle.ntriples.proofs.TermKinds.{term-in_line}
use Rattle.ntriples.proofs.cursor.Cursor.object.Goals as goal
use Rattle.ntriples.proofs.cursor.Cursor.object.Goals.{in_default-via-in-Some+in_default, in_default-via-in_default}

pub returns-in-Some-eq60-clause-goes : goal.returns-in-Some-eq60-clause-goes
returns-in-Some-eq60-clause-goes c =
    let bs = c.args.self.line.now in
    let from = c.past-start.result.pos in
    let start = c.past-start.ensures in
    let here = rw start.same at c.in-Some-eq60.ensures in
    let goes = rw start.same at c.term.ensures.goes in
    λ s h. term-in_line s bs dot c.term.result
    (goes s dot (iri dot) refl (after-byte s bs from thing (blanks-ended s bs _ from thing start.run h) 60 (iri dot) here.0 (omega (arith, here.1)) refl))

pub returns-in-Some-eq95-clause-goes : goal.returns-in-Some-eq95-clause-goes
returns-in-Some-eq95-clause-goes c =
    let bs = c.args.self.line.now in
    let from = c.past-start.result.pos in
    let start = c.past-start.ensures in
    let here = rw start.same at c.in-Some-eq95.ensures in
    let goes = rw start.same at c.term-in-Some-eq95.ensures.goes in
    λ s h. term-in_line s bs dot c.term-in-Some-eq95.result
    (goes s dot (under last) (last, refl, refl) (after-byte s bs from thing (blanks-ended s bs _ from thing start.run h) 95 (under last) here.0 (omega (arith, here.1)) refl))

pub returns-in-Some-eq34-clause-goes : goal.returns-in-Some-eq34-clause-goes
returns-in-Some-eq34-clause-goes c =
    let bs = c.args.self.line.now in
    let from = c.past-start.result.pos in
    let start = c.past-start.ensures in
    let here = rw start.same at c.in-Some-eq34.ensures in
    let goes = rw start.same at c.term-in-Some-eq34.ensures.goes in
    λ s h. term-in_line s bs dot c.term-in-Some-eq34.result
    (goes s dot string (refl, refl) (after-byte s bs from thing (blanks-ended s bs _ from thing start.run h) 34 string here.0 (omega (arith, here.1)) refl))

pub returns-in_default-clause-goes : goal.returns-in_default-clause-goes
returns-in_default-clause-goes c =
    let bs = c.args.self.line.now in
    let from = c.past-start.result.pos in
    let start = c.past-start.ensures in
    let halts = rw start.same at c.stuck.ensures.halts in
    λ s h. halts in_line s (after_stuck s bs from thing (blanks-ended s bs _ from thing start.run h) (λ l.
    elim c.in_default.branch [
      | in_default-via-in-Some+in_default w ↦ (let here = rw start.same at w.in_default.ensures in no_thing (get_or bs from 0) (start.run.past l) (λ e. omega (arith, here.1)) (λ e. omega (arith, here.1)) (λ e. omega (arith, here.1)))
      | in_default-via-in_default w ↦ absurd (let here = rw (w.in_default.is, start.same) at c.peek.ensures in omega (arith, here))
    ]))
