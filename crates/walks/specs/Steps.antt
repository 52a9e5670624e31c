-- The questions that a walk asks. Assumes nothing.
use Rattle.std.specs.Prelude.{◌≡◌, ◌+◌, Some, None, Option}
use Rattle.triples.specs.declared.triple.Triple.{Triple}
use Rattle.triples.specs.declared.question.Pattern.{Pattern}
use Rattle.triples.specs.declared.question.Question.{Question}
use Rattle.triples.specs.Codes.{code_of}
use Rattle.triples.specs.Sets.{Graph}
use Rattle.triples.specs.Questions.{Nothing, Least}

-- the triple of least code
abbrev pub from_start : Pattern → Question
from_start p = record { lowest = 0; pattern = p }

-- the triple of least code above that of t
abbrev pub past : Triple → Pattern → Question
past t p = record { lowest = code_of t + 1; pattern = p }

-- what a walk gives next, and the question q' that is left: the answer of least code, and those past it
abbrev pub WalksOn : Graph → Question → Option Triple → Question → Type 0
WalksOn f q None q' = Nothing f q × (q' ≡ q)
WalksOn f q (Some t) q' = Least f q t × (q' ≡ past t q.pattern)
