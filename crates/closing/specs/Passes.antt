-- An inner device: how a set grows while a store is filled. No public contract ends on it. Assumes nothing.
use Rattle.std.specs.Prelude.{◌≡◌, ℕ, ◌<◌, ◌≤◌, Bool, true, false, T, Ok, Err, Result, List, Decides}
use Rattle.std.specs.List.{AllByRecursion}
use Rattle.triples.specs.declared.triple.Triple.{Triple}
use Rattle.triples.specs.Codes.{width, Inside}
use Rattle.triples.specs.Sets.{Graph, size}
use Rattle.entailment.specs.declared.regime.Regime.{Regime}
use Rattle.entailment.specs.declared.regime.Row.{Row}
use Rattle.entailment.specs.Rows.{premises, conclusion, reading, uses}
use Rattle.closing.specs.declared.passes.NoRoom.{NoRoom}
use Rattle.closing.specs.declared.rows.Part.{Part}
use Rattle.closing.specs.Steps.{Partner, conclusion_of, term_at}

-- each triple of f is in g
abbrev pub Within : Graph → Graph → Type 0
Within f g = (t : Triple) → f t ≡ true → g t ≡ true

-- f grew to g, by nothing but what lies in each set that is so as C says and holds f
pub record Grown (C : Graph → Type 0) (f g : Graph) : Type 0 where
  pub keeps : Within f g
  pub sound : (other : Graph) → C other → Within f other → Within g other

-- g has no room at the capacity m for one triple more, which lies in each such set
pub record Spilt (C : Graph → Type 0) (m : ℕ) (f g : Graph) : Type 0 where
  pub extra : Triple
  pub inside : Inside width extra
  pub missing : g extra ≡ false
  pub full : m ≤ size g
  pub sound : (other : Graph) → C other → Within f other → other extra ≡ true

-- f grew to g at the capacity m: all was done, or there was no room
abbrev pub Outcome : (Graph → Type 0) → Type 0 → ℕ → Graph → Graph → Result (Unit {0}) NoRoom → Type 0
Outcome C Done m f g (Ok u) = Grown C f g × Done
Outcome C Done m f g (Err e) = Grown C f g × Spilt C m f g

-- the set has a triple; those of a list
abbrev pub Holds : Triple → Graph → Type 0
Holds t f = f t ≡ true

abbrev pub HoldsAll : List Triple → Graph → Type 0
HoldsAll ts f = AllByRecursion (λ t. f t ≡ true) ts

-- g has the conclusion of each reading of the row whose premises f has
abbrev pub RowFrom : Row → Graph → Graph → Type 0
RowFrom row f g = (σ : ℕ → ℕ) → AllByRecursion (λ p. f (reading σ p) ≡ true) (premises row) → g (reading σ (conclusion row)) ≡ true

-- the same of the readings whose first premise is t
abbrev pub PartnersFrom : Row → Triple → Graph → Graph → Type 0
PartnersFrom row t f g = (u : Triple) → f u ≡ true → Partner row t u → g (conclusion_of row t u) ≡ true

-- the same of premises with one term at a part
abbrev pub TermFrom : Row → Part → ℕ → Graph → Graph → Type 0
TermFrom row part n f g = (t : Triple) → f t ≡ true → term_at part t ≡ n → g (conclusion_of row t t) ≡ true

-- each triple of the set is of the first n terms
abbrev pub OfFirst : ℕ → Graph → Type 0
OfFirst n f = (t : Triple) → f t ≡ true → Inside n t

-- the same of each row of the regime
abbrev pub RowsFrom : Regime → Graph → Graph → Type 0
RowsFrom r f g = (row : Row) → T (uses r row) → RowFrom row f g

-- the set is closed under the row; under the regime's rows
abbrev pub RowClosed : Row → Graph → Type 0
RowClosed row f = RowFrom row f f

abbrev pub RowsClosed : Regime → Graph → Type 0
RowsClosed r f = RowsFrom r f f

-- a sweep grew f to g at the capacity m, and tells whether it added anything; or there was no room
abbrev pub Swept : Regime → ℕ → Graph → Graph → Result Bool NoRoom → Type 0
Swept r m f g (Ok b) = Grown (RowsClosed r) f g × RowsFrom r f g × Decides b (size f < size g)
Swept r m f g (Err e) = Grown (RowsClosed r) f g × Spilt (RowsClosed r) m f g
