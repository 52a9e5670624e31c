-- An inner device: what filling a store answers. No public contract ends on it. Assumes nothing.
use Rattle.std.specs.Prelude.{◌≡◌, ℕ, Ok, Err, Result}
use Rattle.triples.specs.Sets.{Graph, empty, size}
use Rattle.entailment.specs.declared.regime.Regime.{Regime}
use Rattle.entailment.specs.Closure.{Closure, Exceeds}
use Rattle.ledger.specs.Ledger.{Ledger, terms}
use Rattle.book.specs.declared.filling.NoRoom.{NoRoom}

-- the set is the closure of all triples of the ledger, which does not exceed the capacity, and the answer is its size
pub record Filled (r : Regime) (l : Ledger) (capacity : ℕ) (set : Graph) (n : ℕ) : Type 0 where
  pub closure : Closure r (terms l) l.triples set
  pub room : ¬ Exceeds r (terms l) l.triples capacity
  pub count : n ≡ size set

abbrev pub Fill : Regime → Ledger → ℕ → Graph → Result ℕ NoRoom → Type 0
Fill r l capacity set (Ok n) = Filled r l capacity set n
Fill r l capacity set (Err e) = Exceeds r (terms l) l.triples capacity × (set ≡ empty)
