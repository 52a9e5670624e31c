-- What a linter finds in a document: a verdict on each of its lines. Assumes nothing.
use Rattle.std.specs.Prelude.{◌≡◌, ℕ, ◌+◌, ◌<◌, Bool, true, false, cond, ◌&&◌, List, [], ◌∷◌, ◌++◌, length, count_by, nat_eq}
use Rattle.grammar.specs.Readings.{Term, Reading, a_triple, a_comment, nothing, a_fault}
use Rattle.grammar.specs.Documents.{Row}
use Rattle.spelling.specs.Names.{Name, Denotes, canonical, longest}

-- the term is a name whose spelling is too long
abbrev pub Long : Term → Type 0
Long t = (n : Name) × Denotes t.kind t.text n × (longest < length (canonical n))

-- the verdict on a line: what it holds, or the refusal number and the offset
pub data Verdict : Type 0 where
  is_triple : Verdict
  is_comment : Verdict
  is_empty : Verdict
  refused : ℕ → ℕ → Verdict

-- a triple gets the verdict; one whose terms have too long a spelling is refused by 4 at the first of them
pub data JudgedTriple (s p o : Term) : Verdict → Type 0 where
  short : (Long s → ⊥) → (Long p → ⊥) → (Long o → ⊥) → JudgedTriple s p o is_triple
  long_subject : Long s → JudgedTriple s p o (refused 4 s.offset)
  long_predicate : (Long s → ⊥) → Long p → JudgedTriple s p o (refused 4 p.offset)
  long_object : (Long s → ⊥) → (Long p → ⊥) → Long o → JudgedTriple s p o (refused 4 o.offset)

-- a line that is read so gets the verdict
abbrev pub Judged : Reading → Verdict → Type 0
Judged (a_triple at s p o) v = JudgedTriple s p o v
Judged a_comment v = v ≡ is_comment
Judged nothing v = v ≡ is_empty
Judged (a_fault n k) v = v ≡ refused n k

-- a line that ends in CR
abbrev pub ends_in : ℕ → Row → Bool
ends_in c row = elim row.ending [ [] ↦ false | d ∷ ds ↦ nat_eq d c ]

-- a line that is nothing but LF
abbrev pub bare_lf : Row → Bool
bare_lf row = elim row.text [ [] ↦ ends_in 10 row | d ∷ ds ↦ false ]

-- the lines as editors count them: the LF of CR LF is no line of its own
abbrev pub shown : Bool → List Row → List Row
shown after_cr [] = []
shown after_cr (row ∷ rows) = cond (after_cr && bare_lf row) (shown false rows) (row ∷ shown (ends_in 13 row) rows)

-- the verdicts on lines, one by one
pub data Verdicts : List Row → List Verdict → Type 0 where
  none : Verdicts [] []
  more : {row : Row} {rows : List Row} {v : Verdict} {vs : List Verdict} → Judged row.reading v → Verdicts rows vs → Verdicts (row ∷ rows) (v ∷ vs)

-- how many verdicts there are of each kind
abbrev pub is_a_triple : Verdict → Bool
is_a_triple is_triple = true
is_a_triple is_comment = false
is_a_triple is_empty = false
is_a_triple (refused n k) = false

abbrev pub is_a_comment : Verdict → Bool
is_a_comment is_triple = false
is_a_comment is_comment = true
is_a_comment is_empty = false
is_a_comment (refused n k) = false

abbrev pub is_nothing : Verdict → Bool
is_nothing is_triple = false
is_nothing is_comment = false
is_nothing is_empty = true
is_nothing (refused n k) = false

abbrev pub triples : List Verdict → ℕ
triples vs = count_by is_a_triple vs

abbrev pub comments : List Verdict → ℕ
comments vs = count_by is_a_comment vs

abbrev pub empties : List Verdict → ℕ
empties vs = count_by is_nothing vs

-- a line that cannot be read: its number, the refusal number and the offset
pub record Found : Type 0 where
  pub line : ℕ
  pub number : ℕ
  pub offset : ℕ

-- what is found on line n, which has this verdict
abbrev pub refusal : ℕ → Verdict → List Found
refusal n is_triple = []
refusal n is_comment = []
refusal n is_empty = []
refusal n (refused m k) = record { line = n; number = m; offset = k } ∷ []

-- the refused lines, where the first verdict is on line n
abbrev pub refusals : ℕ → List Verdict → List Found
refusals n [] = []
refusals n (v ∷ vs) = refusal n v ++ refusals (n + 1) vs
