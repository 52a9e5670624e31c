use Rattle.std.proofs.Common.{◌+◌, get_or, refl, arith}
use Rattle.std.proofs.lemmas.Result.{MatchResult-weaker}
use Rattle.grammar.specs.Scanner.{under, colon, in_term}
use Rattle.grammar.proofs.Steps.{stuck_at, by_byte}
use Rattle.grammar.proofs.Moves.{no_colon, label-run}
use Rattle.grammar.proofs.Builds.{build_label}
use Rattle.ntriples.proofs.cursor.Cursor.label.Goals as goal

pub returns-clause-found : goal.returns-clause-found
returns-clause-found c =
    let told = rw (c.advance.ensures.same, c.advance.ensures.next) at c.in_ok-expect.ensures in
    MatchResult-weaker c.past_some.result (rw (told.0, told.1) at c.past_some.ensures)
    (λ e h. (h.0, omega (arith, h.1), build_label c.args.self.line.now c.args.self.pos c.requires.here.0 e.pos c.requires.here.1 told.2.0 told.2.1 h.2 h.1))
    (λ f h. h.0)

pub returns-clause-goes : goal.returns-clause-goes
returns-clause-goes c =
    let bs = c.args.self.line.now in
    let first = c.args.self.pos + 1 + 1 in
    let told = rw (c.advance.ensures.same, c.advance.ensures.next) at c.in_ok-expect.ensures in
    λ s r h.
    let enter = by_byte s bs (c.args.self.pos + 1) 58 (under r) (colon r) h told.2.0 told.2.1 refl in
    MatchResult-weaker c.past_some.result (rw (told.0, told.1) at c.past_some.ensures)
    (λ e k. label-run s bs first e.pos r k.2 k.1 enter)
    (λ f k. k.1 in_term s (λ no. stuck_at in_term s bs first (colon r) enter refl (λ l. no_colon r (get_or bs first 0) (no l)) (λ _. refl)))
