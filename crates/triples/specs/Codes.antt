-- The codes of triples. Assumes nothing.
use Rattle.std.specs.Prelude.{ℕ, ◌+◌, ◌*◌, ◌/◌, ◌%◌, ◌<◌}
use Rattle.triples.specs.declared.triple.Triple.{Triple}

-- how many term numbers there are
abbrev pub width : ℕ
width = 256

-- how many codes there are
abbrev pub codes : ℕ
codes = width * width * width

abbrev pub code_of : Triple → ℕ
code_of t = width * width * t.subject + width * t.predicate + t.object

-- the triple of a code
abbrev pub triple_of : ℕ → Triple
triple_of k = record { subject = k / (width * width); predicate = k / width % width; object = k % width }

-- every number of the triple is below n
abbrev pub Inside : ℕ → Triple → Type 0
Inside n t = (t.subject < n) × (t.predicate < n) × (t.object < n)
