-- What the question whether a goal embeds in a store is answered with. Assumes nothing.
use Rattle.std.specs.Prelude.{◌≡◌, ℕ, ◌<◌, ◌≤◌, ◌⊎◌, List, length, take, drop, Ok, Err, Result, slice_index}
use Rattle.triples.specs.Sets.{Graph}
use Rattle.entailment.specs.declared.goal.GoalRow.{GoalRow}
use Rattle.embedding.specs.declared.kind.Kind.{Kind}
use Rattle.embedding.specs.declared.deciding.Refusal.{Refusal}
use Rattle.embedding.specs.declared.deciding.Refusal.TheVariants.{Rows, Position, Memory}
use Rattle.embedding.specs.declared.search.Verdict.{Verdict}
use Rattle.embedding.specs.declared.search.Verdict.TheVariants.{Yes, No}
use Rattle.embedding.specs.Kinds.{goal_blanks, GoalAllowed}
use Rattle.embedding.specs.Embeddings.{Embedding, EmbedsBelow, Absent}

-- the most rows of a goal
abbrev pub most_rows : ℕ
most_rows = 32

-- the number of a refusal
abbrev pub number : Refusal → ℕ
number Rows = 24
number Position = 25
number Memory = 26

-- there are fewer choices than rows, or the memory for bound blanks or the map is too short
abbrev pub TooLittle : ℕ → ℕ → ℕ → ℕ → Type 0
TooLittle rows choices blanks map = (choices < rows) ⊎ ((blanks < goal_blanks) ⊎ (map < goal_blanks))

-- when a goal is refused so, with memory for that many choices, bound blanks and terms of the map
abbrev pub Refuses : List Kind → List GoalRow → ℕ → ℕ → ℕ → Refusal → Type 0
Refuses kinds goal choices blanks map Rows = most_rows < length goal
Refuses kinds goal choices blanks map Position = (length goal ≤ most_rows) × (GoalAllowed kinds goal → ⊥)
Refuses kinds goal choices blanks map Memory = (length goal ≤ most_rows) × GoalAllowed kinds goal × TooLittle (length goal) choices blanks map

-- when it is served
abbrev pub Served : List Kind → List GoalRow → ℕ → ℕ → ℕ → Type 0
Served kinds goal choices blanks map = (length goal ≤ most_rows) × GoalAllowed kinds goal × (length goal ≤ choices) × (goal_blanks ≤ blanks) × (goal_blanks ≤ map)

-- what the map's memory, which was `was`, is after a yes: its first eight bytes are a map that embeds the goal, and 0 for a
-- goal blank that is not in the goal
pub record Found (n : ℕ) (set : Graph) (goal : List GoalRow) (was is : List ℕ) : Type 0 where
  pub embeds : Embedding n set goal (λ k. slice_index (take goal_blanks is) k)
  pub absent : (k : ℕ) → k < goal_blanks → Absent k goal → slice_index is k ≡ 0
  pub rest : drop goal_blanks is ≡ drop goal_blanks was

-- the verdict on a goal, and what the map's memory is then
abbrev pub Decided : ℕ → Graph → List GoalRow → List ℕ → List ℕ → Verdict → Type 0
Decided n set goal was is Yes = Found n set goal was is
Decided n set goal was is No = (EmbedsBelow n set goal → ⊥) × (is ≡ was)

-- the answer, where terms are the numbers below n
abbrev pub Answers : ℕ → Graph → List Kind → List GoalRow → ℕ → ℕ → List ℕ → List ℕ → Result Verdict Refusal → Type 0
Answers n set kinds goal choices blanks was is (Ok v) = Served kinds goal choices blanks (length was) × Decided n set goal was is v
Answers n set kinds goal choices blanks was is (Err e) = Refuses kinds goal choices blanks (length was) e
