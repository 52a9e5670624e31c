-- The closure: the least set of triples that holds the start set, the kept triples, and each row's conclusion whose
-- premises it holds. Assumes nothing.
use Rattle.std.specs.Prelude.{ℕ, ◌<◌, Bool, true, not, ◌&&◌, T, List, [], ◌∷◌, length}
use Rattle.std.specs.List.{ContainsAt as Has, AllByRecursion}
use Rattle.triples.specs.declared.triple.Triple.{Triple}
use Rattle.triples.specs.Sets.{Graph, among}
use Rattle.entailment.specs.declared.regime.Regime.{Regime}
use Rattle.entailment.specs.declared.regime.Row.{Row}
use Rattle.entailment.specs.Terms.{Term}
use Rattle.entailment.specs.Rows.{Form, premises, conclusion, reading, uses}
use Rattle.entailment.specs.Starts.{start}

-- a set that holds the start set and the kept triples and is closed under the regime's rows, each letter read as any term
pub record Closed (r : Regime) (ts : List Term) (kept : List Triple) (set : Graph) : Type 0 where
  pub starts : (t : Triple) → Has (start r ts) t → T (set t)
  pub keeps : (t : Triple) → Has kept t → T (set t)
  pub rows : (row : Row) → T (uses r row) → (σ : ℕ → ℕ) → AllByRecursion (λ f. T (set (reading σ f))) (premises row) → T (set (reading σ (conclusion row)))

-- a triple lies in every closed set
abbrev pub InClosure : Regime → List Term → List Triple → Triple → Type 0
InClosure r ts kept t = (set : Graph) → Closed r ts kept set → T (set t)

-- a set is the closure: it is closed, and holds only what lies in every closed set
pub record Closure (r : Regime) (ts : List Term) (kept : List Triple) (set : Graph) : Type 0 where
  pub closed : Closed r ts kept set
  pub least : (t : Triple) → T (set t) → InClosure r ts kept t

-- a triple has a derivation
pub data Derives (r : Regime) (ts : List Term) (kept : List Triple) : Triple → Type 0 where
  from_start : {t : Triple} → Has (start r ts) t → Derives r ts kept t
  from_kept : {t : Triple} → Has kept t → Derives r ts kept t
  by_row : (row : Row) → T (uses r row) → (σ : ℕ → ℕ) → ((f : Form) → Has (premises row) f → Derives r ts kept (reading σ f)) → Derives r ts kept (reading σ (conclusion row))

-- no triple stands twice in the list
abbrev pub different : List Triple → Bool
different [] = true
different (t ∷ ts) = not (among ts t) && different ts

-- the closure exceeds n: more than n different triples all lie in it
abbrev pub Exceeds : Regime → List Term → List Triple → ℕ → Type 0
Exceeds r ts kept n = (l : List Triple) × T (different l) × (n < length l) × AllByRecursion (InClosure r ts kept) l
