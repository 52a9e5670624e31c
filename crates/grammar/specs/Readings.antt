-- What a line is read as: a triple with its three terms, a comment, nothing, or a fault. Assumes nothing.
use Rattle.std.specs.Prelude.{◌≡◌, ℕ, ◌+◌, List, ◌∷◌, ◌++◌, length}
use Rattle.grammar.specs.Regular.{Expr, Spells, ◌then◌}
use Rattle.grammar.specs.Productions.{part, full, IRIREF, BLANK_NODE_LABEL, literal, WS, comment, subject, predicate, object, rest, line}
use Rattle.grammar.specs.Places.{Stops}

-- the kinds of terms
pub data Kind : Type 0 where
  an_iri : Kind
  a_label : Kind
  a_literal : Kind

-- the production of a kind
abbrev pub production : Kind → Expr
production an_iri = IRIREF part
production a_label = BLANK_NODE_LABEL
production a_literal = literal part

-- a term as it stands in a document: its kind, its bytes, and the offset of the first of them
pub record Term : Type 0 where
  pub kind : Kind
  pub text : List ℕ
  pub offset : ℕ

-- what a line is read as
pub data Reading : Type 0 where
  a_triple : ℕ → Term → Term → Term → Reading  -- its offset, and subject, predicate and object
  a_comment : Reading
  nothing : Reading
  a_fault : ℕ → ℕ → Reading  -- the refusal number, and the offset of the place

-- the term stands where the production e is, and is of its own kind
pub record Fits (e : Expr) (t : Term) : Type 0 where
  pub allowed : Spells e t.text
  pub of_kind : Spells (production t.kind) t.text

-- the line bs, whose first byte has the offset base, holds a triple that begins at the offset at
pub record Holds (base : ℕ) (bs : List ℕ) (at : ℕ) (s p o : Term) : Type 0 where
  pub w₁ : List ℕ
  pub w₂ : List ℕ
  pub w₃ : List ℕ
  pub w₄ : List ℕ
  pub tail : List ℕ
  pub split : bs ≡ w₁ ++ (s.text ++ (w₂ ++ (p.text ++ (w₃ ++ (o.text ++ (w₄ ++ 46 ∷ tail))))))
  pub blanks : Spells WS w₁ × Spells WS w₂ × Spells WS w₃ × Spells WS w₄
  pub is_subject : Fits (subject part) s
  pub is_predicate : Fits (predicate part) p
  pub is_object : Fits (object part) o
  pub ends : Spells rest tail
  pub at_is : at ≡ base + length w₁
  pub s_at : s.offset ≡ at
  pub p_at : p.offset ≡ at + length s.text + length w₂
  pub o_at : o.offset ≡ p.offset + length p.text + length w₃

-- the line bs, whose first byte has the offset base, is read so
abbrev pub Reads : ℕ → List ℕ → Reading → Type 0
Reads base bs (a_triple at s p o) = Spells (line part) bs × Holds base bs at s p o
Reads base bs a_comment = Spells (line part) bs × Spells (WS then comment) bs
Reads base bs nothing = Spells (line part) bs × Spells WS bs
Reads base bs (a_fault n k) = (j : ℕ) × (k ≡ base + j) × Stops (line full) (line part) bs j n
