-- The triples of a set that fit a pattern. Assumes nothing.
use Rattle.std.specs.Prelude.{◌≡◌, ℕ, true, Decides}
use Rattle.triples.specs.declared.triple.Triple.{Triple}
use Rattle.triples.specs.declared.question.Pattern.{Pattern}
use Rattle.triples.specs.Sets.{Graph, size}
use Rattle.triples.specs.Questions.{Fits}

-- the set g has exactly the triples of f that fit
abbrev pub Selects : Graph → Pattern → Graph → Type 0
Selects f p g = (t : Triple) → Decides (g t) ((f t ≡ true) × Fits p t)

-- n triples of f fit
abbrev pub Counts : Graph → Pattern → ℕ → Type 0
Counts f p n = (g : Graph) × Selects f p g × (n ≡ size g)
