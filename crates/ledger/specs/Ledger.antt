-- What a book holds, and what is read off it. Assumes nothing.
use Rattle.std.specs.Prelude.{ℕ, ◌-◌, Bool, List, [], ◌∷◌, ◌++◌, length, take, is_some, Some, None, Option}
use Rattle.triples.specs.declared.triple.Triple.{Triple}
use Rattle.entailment.specs.Terms.{Term, is_name}
use Rattle.names.specs.Terms.{all_terms}
use Rattle.ledger.specs.declared.mark.Mark.{Mark}

-- the terms after the thirty and the triples, each in the order in which they came, and for an open sheet what stood at its open
pub record Ledger : Type 0 where
  pub more : List Term
  pub triples : List Triple
  pub mark : Option Mark

-- every book begins so
abbrev pub fresh : Ledger
fresh = record { more = []; triples = []; mark = None }

-- the terms of the book
abbrev pub terms : Ledger → List Term
terms l = all_terms l.more

-- a number is a name of the book
abbrev pub has_name : Ledger → ℕ → Bool
has_name l n = is_name (terms l) n

-- a sheet is open
abbrev pub is_open : Ledger → Bool
is_open l = is_some l.mark

abbrev pub standing : Option Mark → List Triple → List Triple
standing None ts = ts
standing (Some m) ts = take m.triples ts

-- the kept triples: those that stood at open, while a sheet is open
abbrev pub kept : Ledger → List Triple
kept l = standing l.mark l.triples

-- what stands now
abbrev pub counts : Ledger → Mark
counts l = record { terms = length (terms l); triples = length l.triples }

abbrev pub with_term : Term → Ledger → Ledger
with_term t l = record { more = l.more ++ t ∷ []; triples = l.triples; mark = l.mark }

abbrev pub with_triple : Triple → Ledger → Ledger
with_triple t l = record { more = l.more; triples = l.triples ++ t ∷ []; mark = l.mark }

abbrev pub with_mark : Option Mark → Ledger → Ledger
with_mark m l = record { more = l.more; triples = l.triples; mark = m }

-- as it stood then, and no sheet open
abbrev pub cut_to : Option Mark → Ledger → Ledger
cut_to None l = l
cut_to (Some m) l = record { more = take (m.terms - 30) l.more; triples = take m.triples l.triples; mark = None }
