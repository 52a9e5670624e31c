use Rattle.std.proofs.Common.{arith}
use Rattle.std.proofs.lemmas.Result.{MatchResult-weaker}
use Rattle.grammar.proofs.Builds.{build_literal}
use Rattle.ntriples.proofs.cursor.Cursor.literal.Goals as goal

pub returns-clause-found : goal.returns-clause-found
returns-clause-found c =
    let told = c.in_ok-string.ensures.found in
    MatchResult-weaker c.suffix.result (rw told.0 at c.suffix.ensures.found)
    (λ e h. (h.0, omega (arith, told.1, h.1), build_literal c.args.self.line.now c.args.self.pos c.in_ok-string.field-0.pos e.pos (omega (arith, told.1)) h.1 told.2 h.2))
    (λ f h. h)
