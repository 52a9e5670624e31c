-- What close answers, and what store and book hold then. Assumes nothing.
use Rattle.std.specs.Prelude.{◌≡◌, ℕ, true, false, Ok, Err, Result}
use Rattle.triples.specs.Sets.{Graph, empty, size}
use Rattle.entailment.specs.declared.regime.Regime.{Regime}
use Rattle.entailment.specs.Closure.{Closure, Exceeds}
use Rattle.ledger.specs.declared.refusal.Refusal.{Refusal}
use Rattle.ledger.specs.declared.refusal.Refusal.TheVariants.{NoSheet, NotLawful, TermsFull, BytesFull, LabelsFull, NoTerm, NotSayable, TriplesFull, TooMany, AlreadyOpen, StillOpen, Capacity}
use Rattle.ledger.specs.Ledger.{Ledger, terms, kept, is_open}
use Rattle.book.specs.declared.state.State.{State}
use Rattle.book.specs.declared.state.State.TheVariants.{Unclosed, Closed}

-- the set that the store means, and the state of the book
pub record Held : Type 0 where
  pub set : Graph
  pub state : State

-- served: the store holds the closure of the kept triples, which does not exceed the capacity, and the answer is its size
pub record Fills (r : Regime) (l : Ledger) (capacity : ℕ) (new : Held) (n : ℕ) : Type 0 where
  pub shut : is_open l ≡ false
  pub closure : Closure r (terms l) (kept l) new.set
  pub room : ¬ Exceeds r (terms l) (kept l) capacity
  pub count : n ≡ size new.set
  pub closed : new.state ≡ Closed

-- refused by 22: the closure exceeds the capacity, the store is left empty and the book unclosed
pub record Overflows (r : Regime) (l : Ledger) (capacity : ℕ) (new : Held) : Type 0 where
  pub shut : is_open l ≡ false
  pub exceeds : Exceeds r (terms l) (kept l) capacity
  pub cleared : new.set ≡ empty
  pub unclosed : new.state ≡ Unclosed

-- the refusals of close: 21 changes nothing
abbrev pub Refuses : Regime → Ledger → ℕ → Held → Held → Refusal → Type 0
Refuses r l capacity old new NoSheet = ⊥
Refuses r l capacity old new NotLawful = ⊥
Refuses r l capacity old new TermsFull = ⊥
Refuses r l capacity old new BytesFull = ⊥
Refuses r l capacity old new LabelsFull = ⊥
Refuses r l capacity old new NoTerm = ⊥
Refuses r l capacity old new NotSayable = ⊥
Refuses r l capacity old new TriplesFull = ⊥
Refuses r l capacity old new TooMany = ⊥
Refuses r l capacity old new AlreadyOpen = ⊥
Refuses r l capacity old new StillOpen = (is_open l ≡ true) × (new ≡ old)
Refuses r l capacity old new Capacity = Overflows r l capacity new

-- what close answers, on a book with this regime and ledger
abbrev pub Closes : Regime → Ledger → ℕ → Held → Held → Result ℕ Refusal → Type 0
Closes r l capacity old new (Ok n) = Fills r l capacity new n
Closes r l capacity old new (Err e) = Refuses r l capacity old new e
