-- Questions about a set of triples: the one of least code that fits. Assumes nothing.
use Rattle.std.specs.Prelude.{◌≡◌, ℕ, ◌<◌, ◌≤◌, true, false, Some, None, Option}
use Rattle.triples.specs.declared.triple.Triple.{Triple}
use Rattle.triples.specs.declared.question.Pattern.{Pattern}
use Rattle.triples.specs.declared.question.Question.{Question}
use Rattle.triples.specs.Codes.{code_of}
use Rattle.triples.specs.Sets.{Graph}

-- a position is free, or asks for a term
abbrev pub Fit : Option ℕ → ℕ → Type 0
Fit None x = Unit {0}
Fit (Some y) x = x ≡ y

-- the triple has the terms that the pattern asks for
abbrev pub Fits : Pattern → Triple → Type 0
Fits p t = Fit p.subject t.subject × Fit p.predicate t.predicate × Fit p.object t.object

-- every triple fits
abbrev pub free : Pattern
free = record { subject = None; predicate = None; object = None }

-- the triple answers the question: it fits, and its code is not below the lowest
abbrev pub Asked : Question → Triple → Type 0
Asked q t = (q.lowest ≤ code_of t) × Fits q.pattern t

-- no triple of the set answers the question
abbrev pub Nothing : Graph → Question → Type 0
Nothing f q = (t : Triple) → Asked q t → f t ≡ false

-- the triple is the one of least code in the set that answers the question
pub record Least (f : Graph) (q : Question) (t : Triple) : Type 0 where
  pub held : f t ≡ true
  pub asked : Asked q t
  pub least : (u : Triple) → Asked q u → code_of u < code_of t → f u ≡ false

-- what next answers
abbrev pub Next : Graph → Question → Option Triple → Type 0
Next f q None = Nothing f q
Next f q (Some t) = Least f q t
