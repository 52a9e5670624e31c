use Rattle.std.proofs.Common.{rules}
use Rattle.std.proofs.lemmas.Slice.{overwrites}
use Rattle.names.proofs.span.Span.write.Goals as goal

pub returns-clause-kept : goal.returns-clause-kept
returns-clause-kept c = search (rules, overwrites)

pub returns-clause-written : goal.returns-clause-written
returns-clause-written c = search (rules, overwrites)
