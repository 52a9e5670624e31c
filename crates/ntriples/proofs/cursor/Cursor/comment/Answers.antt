use Rattle.std.proofs.Common.{◌+◌, get_or, refl, ◌∙◌, subst, arith}
use Rattle.grammar.specs.Regular.{Is}
use Rattle.grammar.specs.Productions.{comment_char, comment}
use Rattle.grammar.specs.Scanner.{remark, in_line, piece}
use Rattle.grammar.proofs.Steps.{stuck_at, run-stays, loops_remark}
use Rattle.grammar.proofs.Moves.{no_remark}
use Rattle.grammar.proofs.Builds.{build_comment}
use Rattle.ntriples.proofs.cursor.Cursor.comment.Goals as goal

pub returns-in-None-clause-found : goal.returns-in-None-clause-found
returns-in-None-clause-found c =
    let bs = c.args.self.line.now in
    let pos = c.args.self.pos in
    let run = rw (c.advance.ensures.same, c.advance.ensures.next) at c.past-end.ensures.run in
    let whole = rw (c.past-end.ensures.same, c.advance.ensures.same) at c.in-None.ensures in
    subst (λ x. Is comment (piece bs pos x)) whole (build_comment bs pos c.requires.here.0 c.past-end.result.pos c.requires.here.1 run)

pub returns-in-Some-clause-goes : goal.returns-in-Some-clause-goes
returns-in-Some-clause-goes c =
    let bs = c.args.self.line.now in
    let end = c.past-end.result in
    let same = c.past-end.ensures.same ∙ c.advance.ensures.same in
    let run = rw (c.advance.ensures.same, c.advance.ensures.next) at c.past-end.ensures.run in
    let here = rw same at c.in-Some.ensures in
    let halts = rw same at c.stuck.ensures.halts in
    λ s h. halts in_line s (stuck_at in_line s bs end.pos remark (run-stays s bs comment_char remark loops_remark (c.args.self.pos + 1) end.pos run h)
    refl (λ l. no_remark (get_or bs end.pos 0) (run.past l)) (λ e. absurd (omega (arith, here.0))))
