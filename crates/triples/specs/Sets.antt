-- Sets of triples. A set is a test; how many triples it has is counted over the codes. Assumes nothing.
use Rattle.std.specs.Prelude.{ℕ, zero, suc, ◌+◌, Bool, false, cond, ◌&&◌, ◌||◌, List, [], ◌∷◌, ◌==◌}
use Rattle.triples.specs.declared.triple.Triple.{Triple}
use Rattle.triples.specs.Codes.{codes, triple_of}

-- a set of triples
abbrev pub Graph : Type 0
Graph = Triple → Bool

abbrev pub same : Triple → Triple → Bool
same t u = t.subject == u.subject && (t.predicate == u.predicate && t.object == u.object)

abbrev pub empty : Graph
empty t = false

-- the set with one triple more
abbrev pub adding : Graph → Triple → Graph
adding f t u = same u t || f u

-- the set of the triples of a list
abbrev pub among : List Triple → Graph
among [] = empty
among (t ∷ ts) = adding (among ts) t

abbrev pub union : Graph → Graph → Graph
union f g t = f t || g t

-- how many numbers below n pass the test
unfoldable pub tally : (ℕ → Bool) → ℕ → ℕ
tally f zero = 0
tally f (suc n) = cond (f n) 1 0 + tally f n

-- how many triples the set has
unfoldable pub size : Graph → ℕ
size f = tally (λ k. f (triple_of k)) codes
