-- A sweep does every row, and a sweep that adds nothing shows that the set is closed.
use Rattle.std.proofs.Common.{◌≡◌, ℕ, zero, suc, ◌<◌, ◌≤◌, true, T, get_or, length, refl, subst, arith, lit<}
use Rattle.std.proofs.ByRecursion.{All-weaker}
use Rattle.triples.specs.declared.triple.Triple.{Triple}
use Rattle.triples.specs.Codes.{width, Inside}
use Rattle.triples.specs.Sets.{Graph, size}
use Rattle.entailment.specs.declared.regime.Regime.{Regime}
use Rattle.entailment.specs.declared.regime.Regime.TheVariants.{Simple, Rdf, Rdfs}
use Rattle.entailment.specs.declared.regime.Row.{Row}
use Rattle.entailment.specs.declared.regime.Row.TheVariants.{RdfD2}
use Rattle.entailment.specs.Rows.{uses, reading, premises}
use Rattle.entailment.proofs.EachRow.{each_row}
use Rattle.closing.specs.Steps.{rows_of}
use Rattle.closing.specs.Passes.{Within, RowFrom, RowsFrom, RowsClosed}
use Rattle.closing.proofs.Inclusions.{size_same}

-- the row at a place of the regime's list
abbrev pub row_at : Regime → ℕ → Row
row_at r k = get_or (rows_of r) k RdfD2

-- each row of the list is of the regime
pub is_used : (r : Regime) (k : ℕ) → k < length (rows_of r) → T (uses r (row_at r k))
is_used Simple k l = absurd (omega arith)
is_used Rdf zero l = tt
is_used Rdf (suc k) l = absurd (omega arith)
is_used Rdfs k l = tt

-- and each row of the regime is in the list
stands : (r : Regime) (row : Row) → T (uses r row) → (k : ℕ) × (k < length (rows_of r)) × (row_at r k ≡ row)
stands Simple row u = absurd u
stands Rdf RdfD2 u = (0, lit< tt, refl)
stands Rdf row u = absurd u
stands Rdfs row u = let a = each_row row in (a.0, a.1, a.2 RdfD2)

pub swept_all : (r : Regime) (f g : Graph) (n : ℕ) → length (rows_of r) ≤ n → ((k : ℕ) → k < n → RowFrom (row_at r k) f g) → RowsFrom r f g
swept_all r f g n l s row u = let a = stands r row u in subst (λ (x : Row). RowFrom x f g) a.2 (s a.0 (let low : a.0 < length (rows_of r) = a.1 in omega arith))

pub still : (r : Regime) (f g : Graph) → Within f g → size g ≤ size f → ((t : Triple) → g t ≡ true → Inside width t) → RowsFrom r f g → RowsClosed r g
still r f g w l inside d row used σ h =
    d row used σ (All-weaker (λ p. g (reading σ p) ≡ true) (λ p. f (reading σ p) ≡ true) (λ p i. size_same f g w l (reading σ p) (inside (reading σ p) i) i) (premises row) h)
