-- Laws of embeddings, over a set of triples of terms. Assumes nothing.
use Rattle.std.specs.Prelude.{ℕ, ◌<◌, ◌≤◌, T, List, length, take, slice_index}
use Rattle.std.specs.List.{AllByRecursion}
use Rattle.triples.specs.declared.triple.Triple.{Triple}
use Rattle.triples.specs.Sets.{Graph}
use Rattle.entailment.specs.declared.goal.GoalRow.{GoalRow}
use Rattle.entailment.specs.Terms.{Term}
use Rattle.entailment.specs.Entailment.{Embeds, OfTerms, RowNamed}
use Rattle.embedding.specs.Kinds.{goal_blanks, kinds_of, GoalAllowed}
use Rattle.embedding.specs.Embeddings.{Embedding, EmbedsBelow}
use Rattle.embedding.specs.Deciding.{Found}

-- there are terms, all below n, and the set is of triples of them
pub record Over (ts : List Term) (n : ℕ) (set : Graph) : Type 0 where
  pub some : 0 < length ts
  pub below : length ts ≤ n
  pub terms : (t : Triple) → T (set t) → OfTerms ts t

-- A goal embeds by a map to numbers below n exactly when it embeds by a map to the terms.
abbrev pub EmbedsInTerms : Type 0
EmbedsInTerms =
    (ts : List Term) (n : ℕ) (set : Graph) (goal : List GoalRow) → Over ts n set
    → (EmbedsBelow n set goal → Embeds ts set goal) × (Embeds ts set goal → EmbedsBelow n set goal)

-- The map of a yes is a map to the terms.
abbrev pub FoundInTerms : Type 0
FoundInTerms =
    (ts : List Term) (n : ℕ) (set : Graph) (goal : List GoalRow) (was is : List ℕ) → Over ts n set
    → Found n set goal was is → Embedding (length ts) set goal (λ k. slice_index (take goal_blanks is) k)

-- In a goal that may be, every name is a name of the book.
abbrev pub AllowedAreNamed : Type 0
AllowedAreNamed = (ts : List Term) (goal : List GoalRow) → GoalAllowed (kinds_of ts) goal → AllByRecursion (RowNamed ts) goal
