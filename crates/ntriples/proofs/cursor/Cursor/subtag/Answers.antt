use Rattle.std.proofs.Common.{◌+◌, get_or, refl, arith}
use Rattle.std.proofs.lemmas.Result.{MatchResult-weaker}
use Rattle.grammar.specs.Scanner.{hyphen, in_term}
use Rattle.grammar.proofs.Steps.{stuck_at}
use Rattle.grammar.proofs.Moves.{no_hyphen, tag-hyphen, sub-run}
use Rattle.grammar.proofs.Builds.{build_subtag}
use Rattle.ntriples.proofs.cursor.Cursor.subtag.Goals as goal

pub returns-clause-found : goal.returns-clause-found
returns-clause-found c =
    MatchResult-weaker c.past_some.result (rw (c.advance.ensures.same, c.advance.ensures.next) at c.past_some.ensures)
    (λ e h. (h.0, omega (arith, h.1), build_subtag c.args.self.line.now c.args.self.pos c.requires.here.0 e.pos c.requires.here.1 h.2 h.1))
    (λ f h. h.0)

pub returns-clause-goes : goal.returns-clause-goes
returns-clause-goes c =
    let bs = c.args.self.line.now in
    let first = c.args.self.pos + 1 in
    λ s h.
    let enter = tag-hyphen s bs c.args.self.pos h c.requires.here.0 c.requires.here.1 in
    MatchResult-weaker c.past_some.result (rw (c.advance.ensures.same, c.advance.ensures.next) at c.past_some.ensures)
    (λ e k. sub-run s bs first e.pos k.2 k.1 enter)
    (λ f k. k.1 in_term s (λ no. stuck_at in_term s bs first hyphen enter refl (λ l. no_hyphen (get_or bs first 0) (no l)) (λ _. refl)))
