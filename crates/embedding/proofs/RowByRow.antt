-- The rows of a goal, one after another.
use Rattle.std.proofs.Common.{◌≡◌, ℕ, ◌<◌, List, length, take, Some, None, Option}
use Rattle.std.specs.List.{AllByRecursion}
use Rattle.entailment.specs.declared.goal.GoalRow.{GoalRow}
use Rattle.embedding.specs.Bound.{Bound}
use Rattle.embedding.specs.Searching.{row_at, IsClosed}

-- the best of the first j rows, where `fewest` stays 4 until there is one
abbrev pub Best : List GoalRow → Bound → ℕ → ℕ → Option ℕ → Type 0
Best goal bs j fewest None = (fewest ≡ 4) × AllByRecursion (IsClosed bs) (take j goal)
Best goal bs j fewest (Some i) = (i < length goal) × (IsClosed bs (row_at goal i) → ⊥)
