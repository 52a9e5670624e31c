use Rattle.std.proofs.Common.{rules}
use Rattle.ntriples.specs.Answers.{reading}
use Rattle.linter.proofs.Judgements.{one-verdict}
use Rattle.linter.proofs.verdict.judge.Goals as goal

pub returns-clause-only : goal.returns-clause-only
returns-clause-only c = λ v k. one-verdict (reading c.args.outcome) v _ k (search rules)
