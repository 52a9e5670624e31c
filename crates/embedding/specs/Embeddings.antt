-- Embeddings of a goal in a set of triples. Assumes nothing.
use Rattle.std.specs.Prelude.{◌≡◌, ℕ, ◌<◌, ◌⊎◌, T, List}
use Rattle.std.specs.List.{AllByRecursion}
use Rattle.triples.specs.Sets.{Graph}
use Rattle.entailment.specs.declared.goal.Position.TheVariants.{Blank}
use Rattle.entailment.specs.declared.goal.GoalRow.{GoalRow}
use Rattle.entailment.specs.Entailment.{put}

-- m puts every row into the set
abbrev pub PutsRows : Graph → List GoalRow → (ℕ → ℕ) → Type 0
PutsRows set goal m = AllByRecursion (λ g. T (set (put m g))) goal

-- m is a map of goal blanks to terms, the numbers below n, that puts every row into the set
pub record Embedding (n : ℕ) (set : Graph) (goal : List GoalRow) (m : ℕ → ℕ) : Type 0 where
  pub terms : (k : ℕ) → m k < n
  pub rows : PutsRows set goal m

-- some map does
abbrev pub EmbedsBelow : ℕ → Graph → List GoalRow → Type 0
EmbedsBelow n set goal = (m : ℕ → ℕ) × Embedding n set goal m

-- the goal blank k stands in the row
abbrev pub InRow : ℕ → GoalRow → Type 0
InRow k r = (r.subject ≡ Blank k) ⊎ ((r.predicate ≡ Blank k) ⊎ (r.object ≡ Blank k))

-- it stands in no row of the goal
abbrev pub Absent : ℕ → List GoalRow → Type 0
Absent k goal = AllByRecursion (λ r. InRow k r → ⊥) goal
