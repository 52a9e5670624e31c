-- A goal may have each row before this one.
use Rattle.std.proofs.Common.{take}
use Rattle.embedding.specs.Kinds.{GoalAllowed}
use Rattle.embedding.proofs.kind.goal_allowed.Given as goal

abbrev pub invariant-loop-row : goal.invariant-loop-row
invariant-loop-row l = GoalAllowed l.kinds (take l.row-index l.goal)
