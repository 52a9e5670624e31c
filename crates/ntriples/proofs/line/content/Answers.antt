use Rattle.std.proofs.Common.{length, refl, ◌∙◌, subst, arith}
use Rattle.std.proofs.lemmas.Result.{err_from_is_err_and}
use Rattle.grammar.specs.Regular.{Spells, ◌then◌}
use Rattle.grammar.specs.Productions.{blank, WS, comment}
use Rattle.grammar.specs.Scanner.{start, remark, piece}
use Rattle.grammar.proofs.Slices.{piece_whole, join, run_spells}
use Rattle.grammar.proofs.Steps.{run-stays, loops_start, by_byte}
use Rattle.grammar.proofs.Whole.{blank-line, comment-line}
use Rattle.ntriples.proofs.line.content.Goals as goal

pub returns-in-None : goal.returns-in-None
returns-in-None c =
    let bs = c.args.line.now in
    let run = rw (c.new.ensures.line, c.new.ensures.start) at c.past-from.ensures.run in
    let whole = rw (c.past-from.ensures.same, c.new.ensures.line) at c.in-None.ensures in
    let w : Spells WS bs = subst (Spells WS) (piece_whole bs) (subst (λ x. Spells WS (piece bs 0 x)) whole (run_spells bs blank 0 c.past-from.result.pos run)) in
    (blank-line bs w, w)

pub returns-in_err-comment-in-Some-eq35 : goal.returns-in_err-comment-in-Some-eq35
returns-in_err-comment-in-Some-eq35 c =
    let bs = c.args.line.now in
    let from = c.past-from.result.pos in
    let same = c.past-from.ensures.same ∙ c.new.ensures.line in
    let run = rw (c.new.ensures.line, c.new.ensures.start) at c.past-from.ensures.run in
    let here = rw same at c.in-Some-eq35.ensures in
    let told = rw same at c.in_err-comment-in-Some-eq35.ensures in
    let p = err_from_is_err_and c.from_residual.result c.from_residual.ensures.1 in
    rw (p.1, p.2) (told.found, told.goes start (by_byte start bs from 35 start remark (run-stays start bs blank start loops_start 0 from run refl) here.0 (omega (arith, here.1)) refl))

pub returns-in_ok-comment-in-Some-eq35 : goal.returns-in_ok-comment-in-Some-eq35
returns-in_ok-comment-in-Some-eq35 c =
    let bs = c.args.line.now in
    let from = c.past-from.result.pos in
    let run = rw (c.new.ensures.line, c.new.ensures.start) at c.past-from.ensures.run in
    let found = rw (c.past-from.ensures.same, c.new.ensures.line) at c.in_ok-comment-in-Some-eq35.ensures.found in
    let w : Spells (WS then comment) bs = subst (Spells (WS then comment)) (piece_whole bs)
    (join bs WS comment 0 from (length bs) (omega arith) run.within (run_spells bs blank 0 from run) found.spelled) in
    (comment-line bs w, w)

pub returns-in_ok-triple-in-Some : goal.returns-in_ok-triple-in-Some
returns-in_ok-triple-in-Some c = rw (c.past-from.ensures.same, c.new.ensures.line) at c.in_ok-triple-in-Some.ensures
