use Rattle.std.proofs.Common.{◌-◌, length}
use Rattle.linter.proofs.Walks.{Walked}
use Rattle.linter.proofs.survey.survey.Given as goal

abbrev pub invariant-loop-line : goal.invariant-loop-line
invariant-loop-line l = Walked l.text l.pos l.after_cr l.survey

abbrev pub decreases-loop-line : goal.decreases-loop-line
decreases-loop-line l = length l.text - l.pos
