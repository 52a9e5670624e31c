-- The terms of a book and their spellings. Assumes nothing.
use Rattle.std.specs.Prelude.{◌≡◌, ℕ, ◌≤◌, cond, ◌==◌, List, [], ◌∷◌, ◌++◌, length, sum_by, slice_index_or, All}
use Rattle.grammar.specs.Readings.{an_iri, a_literal}
use Rattle.spelling.specs.Names.{LawfulAs}
use Rattle.entailment.specs.Terms.{Term, iri, literal, blank, thirty}

-- the term that bytes spell: an IRI's spelling begins with <, another is a literal's, and no bytes spell a blank
abbrev pub term_spelled : List ℕ → Term
term_spelled [] = blank
term_spelled (c ∷ b) = cond (c == 60) (iri (c ∷ b)) (literal (c ∷ b))

-- the term is a name with this spelling
abbrev pub HasSpelling : List ℕ → Term → Type 0
HasSpelling b (iri c) = c ≡ b
HasSpelling b (literal c) = c ≡ b
HasSpelling b blank = ⊥

-- a name's spelling is lawful for its kind; a blank has none
abbrev pub IsLawful : Term → Type 0
IsLawful (iri b) = LawfulAs an_iri b
IsLawful (literal b) = LawfulAs a_literal b
IsLawful blank = Unit {0}

-- how many bytes the spelling of a term takes
abbrev pub bytes_of : Term → ℕ
bytes_of (iri b) = length b
bytes_of (literal b) = length b
bytes_of blank = 0

-- how many bytes the spellings of terms take
abbrev pub spelled_bytes : List Term → ℕ
spelled_bytes ts = sum_by bytes_of ts

-- the most bytes that the spellings of the terms after the thirty take
abbrev pub most_bytes : ℕ
most_bytes = 8192

-- the most terms of a book
abbrev pub most_terms : ℕ
most_terms = 256

-- the terms of a book, where those after the thirty are given
abbrev pub all_terms : List Term → List Term
all_terms more = thirty ++ more

-- the number n is that of the name with this spelling
abbrev pub IsNumberOf : List ℕ → List Term → ℕ → Type 0
IsNumberOf b ts n = HasSpelling b (slice_index_or ts n blank)

-- no name has this spelling
abbrev pub IsUnknown : List ℕ → List Term → Type 0
IsUnknown b ts = (n : ℕ) → ¬ IsNumberOf b ts n

-- no two numbers are of one name
abbrev pub HasNoNameTwice : List Term → Type 0
HasNoNameTwice ts = (b : List ℕ) (m n : ℕ) → IsNumberOf b ts m → IsNumberOf b ts n → m ≡ n

-- what is so of every table of names, where the terms after the thirty are given
pub record IsTable (more : List Term) : Type 0 where
  pub few : length (all_terms more) ≤ most_terms
  pub short : spelled_bytes more ≤ most_bytes
  pub lawful : All IsLawful (all_terms more)
  pub distinct : HasNoNameTwice (all_terms more)
