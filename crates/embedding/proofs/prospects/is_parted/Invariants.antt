-- The rows before this one are parted.
use Rattle.std.proofs.Common.{take}
use Rattle.embedding.specs.Searching.{Parted}
use Rattle.embedding.proofs.prospects.is_parted.Given as goal

abbrev pub invariant-loop-row : goal.invariant-loop-row
invariant-loop-row l = Parted (take l.row-index l.goal) l.bindings
