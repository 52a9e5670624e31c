-- What is so of the memory of a ledger. Assumes nothing.
use Rattle.std.specs.Prelude.{◌≡◌, ℕ, ◌≤◌, List, length, take, Option}
use Rattle.triples.specs.declared.triple.Triple.{Triple}
use Rattle.entailment.specs.Terms.{Term}
use Rattle.ledger.specs.declared.mark.Mark.{Mark}
use Rattle.ledger.specs.Ledger.{Ledger}
use Rattle.ledger.specs.Soundness.{Sound}

-- the ledger of these terms after the thirty, of the first n of these slots for triples, and of what stood at open
abbrev pub ledger_of : List Term → List Triple → ℕ → Option Mark → Ledger
ledger_of more slots n mark = record { more = more; triples = take n slots; mark = mark }

pub record IsKept (more : List Term) (slots : List Triple) (n : ℕ) (mark : Option Mark) : Type 0 where
  pub room : length slots ≡ 512
  pub used : n ≤ 512
  pub sound : Sound (ledger_of more slots n mark)
