-- What is so at every turn of the search, and between two rows.
use Rattle.std.proofs.Common.{◌≡◌, ℕ, ◌+◌, ◌<◌, ◌≤◌, true, ◌⊎◌, List, [], ◌∷◌, length, Some, None, Option}
use Rattle.triples.specs.declared.triple.Triple.{Triple}
use Rattle.triples.specs.Codes.{codes, code_of}
use Rattle.triples.specs.Sets.{Graph}
use Rattle.entailment.specs.declared.goal.GoalRow.{GoalRow}
use Rattle.entailment.specs.Entailment.{put}
use Rattle.embedding.specs.declared.search.Choice.{Choice}
use Rattle.embedding.specs.declared.search.Place.{Place}
use Rattle.embedding.specs.Embeddings.{PutsRows}
use Rattle.embedding.specs.Bound.{Bound, lowest}
use Rattle.embedding.specs.Searching.{Agrees, row_at, Hopeful, IsClosed, Sourced, Complete}
use Rattle.embedding.proofs.Openness.{open_rows}

-- terms are the numbers below n
module _ (n : ℕ) (set : Graph) (goal : List GoalRow) where
  -- the row is tried, under i choices
  pub record Stands (bs : Bound) (i : ℕ) (row : ℕ) : Type 0 where
    pub sourced : Sourced n goal bs
    pub hopeful : Hopeful set goal bs
    pub within : row < length goal
    pub opened : IsClosed bs (row_at goal row) → ⊥
    pub depth : i + open_rows bs goal ≤ length goal

  -- the choices, the last first: each was made for a row that was tried then
  abbrev pub Path : Bound → List Choice → Type 0
  Path bs [] = Unit {0}
  Path bs (c ∷ cs) = (code_of c.triple < codes) × Stands (lowest c.mark bs) (length cs) c.row × Path (lowest c.mark bs) cs

  -- m parts from the choices at one of them, and makes its row a later triple
  abbrev pub Beyond : Bound → List Choice → (ℕ → ℕ) → Type 0
  Beyond bs [] m = ⊥
  Beyond bs (c ∷ cs) m = (Agrees (lowest c.mark bs) m × (code_of c.triple < code_of (put m (row_at goal c.row)))) ⊎ Beyond (lowest c.mark bs) cs m

  -- the triple is not before the candidate
  abbrev pub Reaches : Option Triple → Triple → Type 0
  Reaches None u = ⊥
  Reaches (Some t) u = code_of t ≤ code_of u

  -- if some map puts every row into the set, then one for which P holds does
  abbrev pub Still : ((ℕ → ℕ) → Type 0) → Type 0
  Still P = (m : ℕ → ℕ) → PutsRows set goal m → (l : ℕ → ℕ) × PutsRows set goal l × P l

  -- between two rows
  pub record Ready (bs : Bound) (cs : List Choice) : Type 0 where
    pub sourced : Sourced n goal bs
    pub hopeful : Hopeful set goal bs
    pub depth : length cs + open_rows bs goal ≤ length goal
    pub path : Path bs cs
    pub ahead : Still (λ l. Agrees bs l ⊎ Beyond bs cs l)

  -- at a candidate for a row
  pub record Going (bs : Bound) (cs : List Choice) (row : ℕ) (candidate : Option Triple) : Type 0 where
    pub stands : Stands bs (length cs) row
    pub path : Path bs cs
    pub current : (t : Triple) → candidate ≡ Some t → set t ≡ true
    pub ahead : Still (λ l. (Agrees bs l × Reaches candidate (put l (row_at goal row))) ⊎ Beyond bs cs l)

  -- at every turn: every row is a triple of the set, or there is a candidate, or none, for a row
  abbrev pub State : Bound → List Choice → Option Place → Type 0
  State bs cs None = Complete n set goal bs
  State bs cs (Some p) = Going bs cs p.row p.candidate
