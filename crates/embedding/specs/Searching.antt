-- An inner device: what the search for an embedding asks and answers at each of its steps.
use Rattle.std.specs.Prelude.{◌≤◌, ◌≡◌, ℕ, ◌+◌, ◌<◌, ◌⊎◌, Bool, true, false, List, [], ◌∷◌, length, Some, None, Option, slice_index_or, unwrap_or, drop}
use Rattle.std.specs.List.{AllByRecursion}
use Rattle.triples.specs.declared.triple.Triple.{Triple}
use Rattle.triples.specs.declared.question.Pattern.{Pattern}
use Rattle.triples.specs.Codes.{code_of}
use Rattle.triples.specs.Sets.{Graph}
use Rattle.triples.specs.Questions.{Fits, Next}
use Rattle.walks.specs.Steps.{from_start, past}
use Rattle.entailment.specs.declared.goal.Position.{Position}
use Rattle.entailment.specs.declared.goal.Position.TheVariants.{Name, Blank}
use Rattle.entailment.specs.declared.goal.GoalRow.{GoalRow}
use Rattle.entailment.specs.Entailment.{put}
use Rattle.embedding.specs.declared.search.Choice.{Choice}
use Rattle.embedding.specs.declared.search.Place.{Place}
use Rattle.embedding.specs.Embeddings.{PutsRows, EmbedsBelow, Absent}
use Rattle.embedding.specs.Bound.{Bound, lookup, pattern, unify, NoneBetween}

-- m gives each goal blank that is bound its term
abbrev pub Agrees : Bound → (ℕ → ℕ) → Type 0
Agrees bs m = (k w : ℕ) → lookup bs k ≡ Some w → m k ≡ w

-- the row at a place of the goal
abbrev pub row_at : List GoalRow → ℕ → GoalRow
row_at goal i = slice_index_or goal i (record { subject = Name 0; predicate = Name 0; object = Name 0 })

-- some triple of the set fits the row as far as its goal blanks are bound
pub record Prospect (set : Graph) (bs : Bound) (r : GoalRow) : Type 0 where
  pub triple : Triple
  pub held : set triple ≡ true
  pub fits : Fits (pattern bs r) triple

abbrev pub Hopeful : Graph → List GoalRow → Bound → Type 0
Hopeful set goal bs = AllByRecursion (Prospect set bs) goal

-- whether every row has a prospect; if not, no map that agrees puts every row into the set
abbrev pub Promises : Graph → List GoalRow → Bound → Bool → Type 0
Promises set goal bs true = Hopeful set goal bs
Promises set goal bs false = (m : ℕ → ℕ) → Agrees bs m → PutsRows set goal m → ⊥

-- whether a row can be the triple, with a prospect for every row
abbrev pub Tries : Graph → List GoalRow → GoalRow → Triple → Bound → Bound → Bool → Type 0
Tries set goal r t bs cs true = (unify r t bs ≡ Some cs) × Hopeful set goal cs
Tries set goal r t bs cs false = (cs ≡ bs) × ((m : ℕ → ℕ) → Agrees bs m → PutsRows set goal m → put m r ≡ t → ⊥)

-- 1 for a position that is free
abbrev pub one_free : Option ℕ → ℕ
one_free None = 1
one_free (Some x) = 0

-- how many positions of a pattern are free
abbrev pub free_positions : Pattern → ℕ
free_positions p = one_free p.subject + one_free p.predicate + one_free p.object

-- how many positions of a row have a goal blank that is not bound
abbrev pub unbound : Bound → GoalRow → ℕ
unbound bs r = free_positions (pattern bs r)

-- every position of the row has a term
abbrev pub IsClosed : Bound → GoalRow → Type 0
IsClosed bs r = unbound bs r ≡ 0

-- which row is next: one that is not closed; none where all are
abbrev pub Picks : List GoalRow → Bound → Option ℕ → Type 0
Picks goal bs None = AllByRecursion (IsClosed bs) goal
Picks goal bs (Some i) = (i < length goal) × (IsClosed bs (row_at goal i) → ⊥)

-- the row, with the first triple for it
abbrev pub Places : Graph → List GoalRow → Bound → Option Place → Type 0
Places set goal bs None = AllByRecursion (IsClosed bs) goal
Places set goal bs (Some p) = (p.row < length goal) × (IsClosed bs (row_at goal p.row) → ⊥) × Next set (from_start (pattern bs (row_at goal p.row))) p.candidate

-- the position has no goal blank that is bound
abbrev pub Loose : Bound → Position → Type 0
Loose bs (Name n) = Unit {0}
Loose bs (Blank k) = lookup bs k ≡ None

-- no goal blank of the row is bound
abbrev pub Apart : Bound → GoalRow → Type 0
Apart bs r = Loose bs r.subject × Loose bs r.predicate × Loose bs r.object

-- no row has both a goal blank that is bound and one that is not
abbrev pub Parted : List GoalRow → Bound → Type 0
Parted goal bs = AllByRecursion (λ r. IsClosed bs r ⊎ Apart bs r) goal

-- the choices cs with c on top; none where the rows part, since then nothing would be gained by another choice for those that
-- are closed
abbrev pub Keeps : List GoalRow → Bound → Choice → List Choice → List Choice → Type 0
Keeps goal bs c cs ds = (ds ≡ c ∷ cs) ⊎ ((ds ≡ []) × Parted goal bs)

-- where the row i cannot be the triple t: nothing changes, and the row's next triple is the candidate
pub record Passes (set : Graph) (goal : List GoalRow) (i : ℕ) (t : Triple) (bs : Bound) (cs : List Choice) (es : Bound) (ds : List Choice) (p : Option Place) : Type 0 where
  pub bindings : es ≡ bs
  pub choices : ds ≡ cs
  pub fails : (m : ℕ → ℕ) → Agrees bs m → PutsRows set goal m → put m (row_at goal i) ≡ t → ⊥
  pub over : Triple
  pub later : code_of t ≤ code_of over
  pub none : NoneBetween (row_at goal i) t over
  pub candidate : Option Triple
  pub place : p ≡ Some (record { row = i; candidate = candidate })
  pub next : Next set (past over (pattern es (row_at goal i))) candidate

-- where it can: its goal blanks are bound, the choice is kept, and another row is next
pub record Takes (set : Graph) (goal : List GoalRow) (i : ℕ) (t : Triple) (bs : Bound) (cs : List Choice) (es : Bound) (ds : List Choice) (p : Option Place) : Type 0 where
  pub unified : unify (row_at goal i) t bs ≡ Some es
  pub hopeful : Hopeful set goal es
  pub kept : Keeps goal es (record { row = i; triple = t; mark = length bs }) cs ds
  pub places : Places set goal es p

abbrev pub Advances : Graph → List GoalRow → ℕ → Triple → Bound → List Choice → Bound → List Choice → Option Place → Type 0
Advances set goal i t bs cs es ds p = Passes set goal i t bs cs es ds p ⊎ Takes set goal i t bs cs es ds p

-- each goal blank that is bound stands in the goal, and its term is below n
abbrev pub Sourced : ℕ → List GoalRow → Bound → Type 0
Sourced n goal bs = (k w : ℕ) → lookup bs k ≡ Some w → (w < n) × (Absent k goal → ⊥)

-- every row is a triple of the set, as its goal blanks are bound
pub record Complete (n : ℕ) (set : Graph) (goal : List GoalRow) (bs : Bound) : Type 0 where
  pub closed : AllByRecursion (IsClosed bs) goal
  pub hopeful : Hopeful set goal bs
  pub sourced : Sourced n goal bs

-- what the search comes to
abbrev pub Sought : ℕ → Graph → List GoalRow → Bound → Bool → Type 0
Sought n set goal bs true = (0 < n) × Complete n set goal bs
Sought n set goal bs false = EmbedsBelow n set goal → ⊥

-- the first j bytes of `is`, which was `was`, are the terms of the goal blanks, or 0
pub record Written (bs : Bound) (j : ℕ) (was is : List ℕ) : Type 0 where
  pub length : length is ≡ length was
  pub first : (k : ℕ) → k < j → slice_index_or is k 0 ≡ unwrap_or (lookup bs k) 0
  pub rest : drop 8 is ≡ drop 8 was
