-- Whether a row adds a triple to a list, as a test, and that finitely many assignments decide it.
use Rattle.std.proofs.Common.{◌≡◌, ℕ, ◌<◌, min, Bool, not, ◌&&◌, T, List, [], ◌∷◌, refl, arith}
use Rattle.std.specs.List.{AllByRecursion, list_all}
use Rattle.triples.specs.declared.triple.Triple.{Triple}
use Rattle.triples.specs.Sets.{among}
use Rattle.entailment.specs.declared.regime.Regime.{Regime}
use Rattle.entailment.specs.declared.regime.Row.{Row}
use Rattle.entailment.specs.declared.regime.Row.TheVariants.{RdfD2}
use Rattle.entailment.specs.Rows.{Slot, the, letter, Form, at, reading, premises, conclusion, uses}
use Rattle.entailment.proofs.Basics.{and_both}
use Rattle.entailment.proofs.SaturationSearch.{cut}

abbrev pub holds : List Triple → (ℕ → ℕ) → Form → Bool
holds l σ f = among l (reading σ f)

-- the list holds the row's premises, and not its conclusion
abbrev pub adds : Regime → List Triple → Row → (ℕ → ℕ) → Bool
adds r l row σ = uses r row && (list_all (holds l σ) (premises row) && not (holds l σ (conclusion row)))

-- the rows have no letter but the first seven
pub cut-adds : (r : Regime) (l : List Triple) (row : Row) (σ : ℕ → ℕ) → adds r l row (cut 7 σ) ≡ adds r l row σ
cut-adds r l RdfD2 σ = refl
cut-adds r l row σ = refl

-- an assignment with no number above n
abbrev pub at_most : ℕ → (ℕ → ℕ) → ℕ → ℕ
at_most n σ j = min (σ j) n

pub at-at_most : (n : ℕ) (σ : ℕ → ℕ) (x : Slot) → at σ x < n → at (at_most n σ) x ≡ at σ x
at-at_most n σ (the k) h = refl
at-at_most n σ (letter k) h = omega arith

pub test-by_all : {X : Type 0} (f : X → Bool) (xs : List X) → AllByRecursion (λ x. T (f x)) xs → T (list_all f xs)
test-by_all f [] h = tt
test-by_all f (x ∷ xs) h = and_both (f x) (list_all f xs) h.0 (test-by_all f xs h.1)
