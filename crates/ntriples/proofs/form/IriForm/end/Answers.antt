use Rattle.std.proofs.Common.{◌∙◌}
use Rattle.std.proofs.lemmas.Result.{MatchResult-weaker}
use Rattle.grammar.proofs.Steps.{before-ended}
use Rattle.ntriples.proofs.form.IriForm.end.Goals as goal

pub returns-clause-goes : goal.returns-clause-goes
returns-clause-goes c = λ s n t e h. MatchResult-weaker c.iri.result (c.iri.ensures.goes s n (h ∙ e)) (λ x k. before-ended s c.args.from.line.now x.pos n k) (λ f k. k)
