use Rattle.std.proofs.Common.{refl, ap, ◌∙◌, arith}
use Rattle.std.proofs.lemmas.Result.{err_from_is_err_and}
use Rattle.grammar.specs.Productions.{blank}
use Rattle.grammar.specs.Scanner.{dot, start, ended, in_line}
use Rattle.grammar.proofs.Slices.{run_spells}
use Rattle.grammar.proofs.Steps.{run-stays, loops_start, blanks-ended}
use Rattle.grammar.proofs.Moves.{no_dot, after-byte, after_stuck}
use Rattle.grammar.proofs.Whole.{build_holds, holds_line}
use Rattle.ntriples.specs.Answers.{bytes_of, located_term}
use Rattle.ntriples.proofs.cursor.Cursor.statement.Goals as goal

pub returns-in_err-subject : goal.returns-in_err-subject
returns-in_err-subject c =
    let e₀ = run-stays start c.args.self.line.now blank start loops_start 0 c.args.self.pos c.requires.here.2 refl in
    let p = err_from_is_err_and c.from_residual.result c.from_residual.ensures.1 in
    let told = c.in_err-subject.ensures in
    rw (p.1, p.2) (told.found, told.goes start e₀)

pub returns-in_err-predicate : goal.returns-in_err-predicate
returns-in_err-predicate c =
    let e₀ = run-stays start c.args.self.line.now blank start loops_start 0 c.args.self.pos c.requires.here.2 refl in
    let s = c.in_ok-subject.ensures in
    let p = err_from_is_err_and c.from_residual-in_err-predicate.result c.from_residual-in_err-predicate.ensures.1 in
    let told = rw s.found.1 at c.in_err-predicate.ensures in
    rw (p.1, p.2) (told.found, told.goes start (s.goes start e₀))

pub returns-in_err-object : goal.returns-in_err-object
returns-in_err-object c =
    let e₀ = run-stays start c.args.self.line.now blank start loops_start 0 c.args.self.pos c.requires.here.2 refl in
    let s = c.in_ok-subject.ensures in
    let q = rw s.found.1 at c.in_ok-predicate.ensures in
    let p = err_from_is_err_and c.from_residual-in_err-object.result c.from_residual-in_err-object.ensures.1 in
    let told = rw q.found.1 at c.in_err-object.ensures in
    rw (p.1, p.2) (told.found, told.goes start (q.goes start (s.goes start e₀)))

pub returns-in_err-after : goal.returns-in_err-after
returns-in_err-after c =
    let bs = c.args.self.line.now in
    let stop = c.past.result.pos in
    let e₀ = run-stays start bs blank start loops_start 0 c.args.self.pos c.requires.here.2 refl in
    let s = c.in_ok-subject.ensures in
    let q = rw s.found.1 at c.in_ok-predicate.ensures in
    let o = rw q.found.1 at c.in_ok-object.ensures in
    let run = rw o.found.1 at c.past.ensures.run in
    let e₁ = blanks-ended start bs _ stop dot run (o.goes start (q.goes start (s.goes start e₀))) in
    let p = err_from_is_err_and c.from_residual-in_err-after.result c.from_residual-in_err-after.ensures.1 in
    let told = rw (c.past.ensures.same, o.found.1) at c.in_err-after.ensures in
    rw (p.1, p.2) (told.0, told.1 in_line start (λ no. after_stuck start bs stop dot e₁ (λ l. no_dot _ (run.past l) (no l))))

pub returns-in_err-rest : goal.returns-in_err-rest
returns-in_err-rest c =
    let bs = c.args.self.line.now in
    let stop = c.past.result.pos in
    let e₀ = run-stays start bs blank start loops_start 0 c.args.self.pos c.requires.here.2 refl in
    let s = c.in_ok-subject.ensures in
    let q = rw s.found.1 at c.in_ok-predicate.ensures in
    let o = rw q.found.1 at c.in_ok-object.ensures in
    let run = rw o.found.1 at c.past.ensures.run in
    let e₁ = blanks-ended start bs _ stop dot run (o.goes start (q.goes start (s.goes start e₀))) in
    let d = rw (c.past.ensures.same, o.found.1) at c.in_ok-after.ensures in
    let p = err_from_is_err_and c.from_residual-in_err-rest.result c.from_residual-in_err-rest.ensures.1 in
    let told = rw (d.0, d.1) at c.in_err-rest.ensures in
    rw (p.1, p.2) (told.found, told.goes start (after-byte start bs stop dot e₁ 46 ended d.2.0 d.2.1 refl))

pub returns : goal.returns
returns c =
    let bs = c.args.self.line.now in
    let s = rw c.in_ok-subject.ensures.at at c.in_ok-subject.ensures.found in
    let q = rw s.1 at c.in_ok-predicate.ensures.found in
    let o = rw q.1 at c.in_ok-object.ensures.found in
    let run = rw o.1 at c.past.ensures.run in
    let d = rw (c.past.ensures.same, o.1) at c.in_ok-after.ensures in
    let tail = rw (d.0, d.1) at c.in_ok-rest.ensures.found in
    let h = build_holds c.args.base bs c.args.self.pos _ _ _ _ _ c.past.result.pos
    (located_term c.located.result) (located_term c.located-2.result) (located_term c.located-3.result)
    (omega (arith, s.3)) q.2.forward (omega (arith, q.3)) o.2.forward (omega (arith, o.3)) run.forward d.2.0 d.2.1
    (ap bytes_of c.located.ensures.item ∙ s.4) (ap bytes_of c.located-2.ensures.item ∙ q.4) (ap bytes_of c.located-3.ensures.item ∙ o.4)
    (record { spelled = run_spells bs blank 0 c.args.self.pos c.requires.here.2 }) (record { spelled = run_spells bs blank _ _ q.2 }) (record { spelled = run_spells bs blank _ _ o.2 }) (record { spelled = run_spells bs blank _ _ run })
    (rw c.located.ensures.item (s.5 _)) (rw c.located-2.ensures.item (q.5 _)) (rw c.located-3.ensures.item (o.5 _)) tail
    (omega (arith, c.located.ensures.offset, c.in_ok-subject.ensures.at)) c.located-2.ensures.offset c.located-3.ensures.offset in
    (holds_line _ _ _ _ _ _ h, h)
