-- An inner device of the cube's search: the answer of least code in a part of the cube. Assumes nothing.
use Rattle.std.specs.Prelude.{◌≡◌, ℕ, ◌<◌, ◌≤◌, true, Some, None, Option, ◌≢◌}
use Rattle.triples.specs.declared.triple.Triple.{Triple}
use Rattle.triples.specs.declared.question.Question.{Question}
use Rattle.triples.specs.Codes.{code_of}
use Rattle.triples.specs.Sets.{Graph}
use Rattle.triples.specs.Questions.{Fit, Asked}
use Rattle.cube_store.specs.Bits.{side, bit_at}

-- the numbers from a to below b are those inside the side, not below n, that fit the position
pub record Spans (o : Option ℕ) (n a b : ℕ) : Type 0 where
  pub every : (x : ℕ) → x < side → n ≤ x → Fit o x → (a ≤ x) × (x < b)
  pub fits : (x : ℕ) → a ≤ x → x < b → (n ≤ x) × Fit o x
  pub inside : b ≤ side

-- the least set bit of the word w from bit a to below bit b
abbrev pub FirstBit : ℕ → ℕ → ℕ → Option ℕ → Type 0
FirstBit w a b None = (k : ℕ) → a ≤ k → k < b → bit_at w k ≢ true
FirstBit w a b (Some o) = (a ≤ o) × (o < b) × (bit_at w o ≡ true) × ((k : ℕ) → a ≤ k → bit_at w k ≡ true → o ≤ k)

-- the triple is in the set and answers the question
abbrev pub Answers : Graph → Question → Triple → Type 0
Answers f q t = (f t ≡ true) × Asked q t

-- the triple is the answer of least code in the part
pub record First (Part : Triple → Type 0) (f : Graph) (q : Question) (t : Triple) : Type 0 where
  pub part : Part t
  pub answers : Answers f q t
  pub first : (u : Triple) → Part u → Answers f q u → code_of t ≤ code_of u

abbrev pub FirstIn : (Triple → Type 0) → Graph → Question → Option Triple → Type 0
FirstIn Part f q None = (u : Triple) → Part u → Answers f q u → ⊥
FirstIn Part f q (Some t) = First Part f q t

-- the triples of a subject
abbrev pub OfSubject : ℕ → Triple → Type 0
OfSubject s t = t.subject ≡ s

-- the triples of a subject and a predicate
abbrev pub OfRow : ℕ → ℕ → Triple → Type 0
OfRow s p t = (t.subject ≡ s) × (t.predicate ≡ p)
