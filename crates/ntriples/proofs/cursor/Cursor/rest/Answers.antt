use Rattle.std.proofs.Common.{length, get_or, refl, subst, inl, inr, arith}
use Rattle.std.proofs.lemmas.Result.{MatchResult-weaker}
use Rattle.grammar.specs.Regular.{empty, ◌or◌, Is}
use Rattle.grammar.specs.Productions.{blank, WS, comment, rest}
use Rattle.grammar.specs.Scanner.{ended, remark, in_line, piece}
use Rattle.grammar.proofs.Slices.{piece-none, join, run_spells}
use Rattle.grammar.proofs.Steps.{stuck_at, run-stays, loops_ended, by_byte}
use Rattle.grammar.proofs.Moves.{no_ended}
use Rattle.ntriples.proofs.cursor.Cursor.rest.Goals as goal

pub returns-in-None-clause-found : goal.returns-in-None-clause-found
returns-in-None-clause-found c =
    let bs = c.args.self.line.now in
    let pos = c.args.self.pos in
    let end = c.past-end.result.pos in
    let run = c.past-end.ensures.run in
    let whole = rw c.past-end.ensures.same at c.in-None.ensures in
    subst (λ x. Is rest (piece bs pos x)) whole (record { spelled = join bs WS (empty or comment) pos end end run.forward (omega arith) (run_spells bs blank pos end run) (inl (piece-none bs end)) })

pub returns-in-Some-eq35-clause-found : goal.returns-in-Some-eq35-clause-found
returns-in-Some-eq35-clause-found c =
    let bs = c.args.self.line.now in
    let pos = c.args.self.pos in
    let run = c.past-end.ensures.run in
    MatchResult-weaker c.comment.result (rw c.past-end.ensures.same at c.comment.ensures.found)
    (λ _ h. record { spelled = join bs WS (empty or comment) pos c.past-end.result.pos (length bs) run.forward run.within (run_spells bs blank pos c.past-end.result.pos run) (inr h.spelled) })
    (λ f h. h)

pub returns-in-Some-eq35-clause-goes : goal.returns-in-Some-eq35-clause-goes
returns-in-Some-eq35-clause-goes c =
    let bs = c.args.self.line.now in
    let end = c.past-end.result.pos in
    let here = rw c.past-end.ensures.same at c.in-Some-eq35.ensures in
    let goes = rw c.past-end.ensures.same at c.comment.ensures.goes in
    λ s h. goes s (by_byte s bs end 35 ended remark (run-stays s bs blank ended loops_ended c.args.self.pos end c.past-end.ensures.run h) here.0 (omega (arith, here.1)) refl)

pub returns-in-Some-clause-goes : goal.returns-in-Some-clause-goes
returns-in-Some-clause-goes c =
    let bs = c.args.self.line.now in
    let end = c.past-end.result.pos in
    let run = c.past-end.ensures.run in
    let here = rw c.past-end.ensures.same at c.in-Some.ensures in
    let halts = rw c.past-end.ensures.same at c.stuck.ensures.halts in
    λ s h. halts in_line s (stuck_at in_line s bs end ended (run-stays s bs blank ended loops_ended c.args.self.pos end run h)
    refl (λ l. no_ended (get_or bs end 0) (run.past l) (λ e. omega (arith, here.1))) (λ e. absurd (omega (arith, here.0))))
