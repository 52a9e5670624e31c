-- The entailment patterns: fourteen rows of premises and a conclusion. A slot is a fixed term of the thirty or a letter,
-- which stands for one term throughout its row. Assumes nothing.
use Rattle.std.specs.Prelude.{ℕ, Bool, true, false, List, [], ◌∷◌}
use Rattle.triples.specs.declared.triple.Triple.{Triple}
use Rattle.entailment.specs.declared.regime.Regime.{Regime}
use Rattle.entailment.specs.declared.regime.Regime.TheVariants.{Simple, Rdf, Rdfs}
use Rattle.entailment.specs.declared.regime.Row.{Row}
use Rattle.entailment.specs.declared.regime.Row.TheVariants.{RdfD2, Rdfs2, Rdfs3, Rdfs4a, Rdfs4b, Rdfs5, Rdfs6, Rdfs7, Rdfs8, Rdfs9, Rdfs10, Rdfs11, Rdfs12, Rdfs13}
use Rattle.entailment.specs.Vocabulary.{#type, #Property, #Resource, #Class, #Literal, #Datatype, #CMP, #domain, #range, #subClassOf, #subPropertyOf, #member}

abbrev pub triple : ℕ → ℕ → ℕ → Triple
triple s p o = record { subject = s; predicate = p; object = o }

pub data Slot : Type 0 where
  the : ℕ → Slot
  letter : ℕ → Slot

-- three slots
pub record Form : Type 0 where
  pub subject : Slot
  pub predicate : Slot
  pub object : Slot

abbrev pub form : Slot → Slot → Slot → Form
form s p o = record { subject = s; predicate = p; object = o }

-- the term of a slot, where σ says what each letter stands for
abbrev pub at : (ℕ → ℕ) → Slot → ℕ
at σ (the n) = n
at σ (letter k) = σ k

-- the triple that a form is then
abbrev pub reading : (ℕ → ℕ) → Form → Triple
reading σ f = triple (at σ f.subject) (at σ f.predicate) (at σ f.object)

-- the letters of the rows
abbrev a : Slot
a = letter 0

abbrev b : Slot
b = letter 1

abbrev c : Slot
c = letter 2

abbrev d : Slot
d = letter 3

abbrev e : Slot
e = letter 4

abbrev x : Slot
x = letter 5

abbrev y : Slot
y = letter 6

abbrev pub premises : Row → List Form
premises RdfD2 = form x a y ∷ []
premises Rdfs2 = form a (the #domain) c ∷ form x a y ∷ []
premises Rdfs3 = form a (the #range) c ∷ form x a y ∷ []
premises Rdfs4a = form x a y ∷ []
premises Rdfs4b = form x a y ∷ []
premises Rdfs5 = form a (the #subPropertyOf) b ∷ form b (the #subPropertyOf) c ∷ []
premises Rdfs6 = form a (the #type) (the #Property) ∷ []
premises Rdfs7 = form a (the #subPropertyOf) b ∷ form x a y ∷ []
premises Rdfs8 = form c (the #type) (the #Class) ∷ []
premises Rdfs9 = form c (the #subClassOf) d ∷ form x (the #type) c ∷ []
premises Rdfs10 = form c (the #type) (the #Class) ∷ []
premises Rdfs11 = form c (the #subClassOf) d ∷ form d (the #subClassOf) e ∷ []
premises Rdfs12 = form a (the #type) (the #CMP) ∷ []
premises Rdfs13 = form c (the #type) (the #Datatype) ∷ []

abbrev pub conclusion : Row → Form
conclusion RdfD2 = form a (the #type) (the #Property)
conclusion Rdfs2 = form x (the #type) c
conclusion Rdfs3 = form y (the #type) c
conclusion Rdfs4a = form x (the #type) (the #Resource)
conclusion Rdfs4b = form y (the #type) (the #Resource)
conclusion Rdfs5 = form a (the #subPropertyOf) c
conclusion Rdfs6 = form a (the #subPropertyOf) a
conclusion Rdfs7 = form x b y
conclusion Rdfs8 = form c (the #subClassOf) (the #Resource)
conclusion Rdfs9 = form x (the #type) d
conclusion Rdfs10 = form c (the #subClassOf) c
conclusion Rdfs11 = form c (the #subClassOf) e
conclusion Rdfs12 = form a (the #subPropertyOf) (the #member)
conclusion Rdfs13 = form c (the #subClassOf) (the #Literal)

-- the rows in their order; a row's place is its index, from 0
abbrev pub rows : List Row
rows = RdfD2 ∷ Rdfs2 ∷ Rdfs3 ∷ Rdfs4a ∷ Rdfs4b ∷ Rdfs5 ∷ Rdfs6 ∷ Rdfs7 ∷ Rdfs8 ∷ Rdfs9 ∷ Rdfs10 ∷ Rdfs11 ∷ Rdfs12 ∷ Rdfs13 ∷ []

-- whether a regime has a row
abbrev pub uses : Regime → Row → Bool
uses Simple row = false
uses Rdf RdfD2 = true
uses Rdf row = false
uses Rdfs row = true
