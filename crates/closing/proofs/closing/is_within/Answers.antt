use Rattle.std.proofs.Common.{arith}
use Rattle.std.proofs.lemmas.Bool.{both_ways}
use Rattle.closing.proofs.Ending.{outside}
use Rattle.closing.proofs.closing.is_within.Goals as goal

pub returns-then-more-side-clause-no : goal.returns-then-more-side-clause-no
returns-then-more-side-clause-no c failed = outside c.args.more.now c.args.kept.now c.args.side (λ few all. omega (arith, few, c.if-more-side.true, c.requires))

pub returns-clause-no : goal.returns-clause-no
returns-clause-no c failed = outside c.args.more.now c.args.kept.now c.args.side (λ few all. both_ways c.are_inside.result failed (c.are_inside.ensures.1 all))
