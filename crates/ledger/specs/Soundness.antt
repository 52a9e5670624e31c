-- What is so of every ledger that calls made. Assumes nothing.
use Rattle.std.specs.Prelude.{ℕ, ◌≤◌, List, length, take, Some, None, Option}
use Rattle.std.specs.List.{AllByRecursion}
use Rattle.triples.specs.declared.triple.Triple.{Triple}
use Rattle.triples.specs.Codes.{Inside}
use Rattle.ledger.specs.declared.mark.Mark.{Mark}
use Rattle.ledger.specs.Ledger.{Ledger, terms}
use Rattle.ledger.specs.Steps.{most_triples}

-- what stood at open stands, and its triples are of its terms
pub record StoodAt (m : Mark) (n : ℕ) (ts : List Triple) : Type 0 where
  pub thirty : 30 ≤ m.terms
  pub terms : m.terms ≤ n
  pub triples : m.triples ≤ length ts
  pub of_terms : AllByRecursion (Inside m.terms) (take m.triples ts)

abbrev pub MarkStands : Option Mark → ℕ → List Triple → Type 0
MarkStands None n ts = Unit {0}
MarkStands (Some m) n ts = StoodAt m n ts

-- the triples are of the terms, they are not too many, and what stood at open stands
pub record Sound (l : Ledger) : Type 0 where
  pub of_terms : AllByRecursion (Inside (length (terms l))) l.triples
  pub few : length l.triples ≤ most_triples
  pub mark : MarkStands l.mark (length (terms l)) l.triples
