-- The terms of a book. A term is an IRI, a literal or a blank, and is known by its number, its place in the list of terms.
-- A name, an IRI or a literal, has its spelling with it, in bytes. Assumes nothing.
use Rattle.std.specs.Prelude.{◌≡◌, ℕ, suc, Bool, true, false, cond, ◌&&◌, List, [], ◌∷◌, ◌++◌, take, codes, ◌==◌, nat_le, slice_index_or}

pub data Term : Type 0 where
  iri : List ℕ → Term
  literal : List ℕ → Term
  blank : Term

abbrev pub named : Term → Bool
named (iri b) = true
named (literal b) = true
named blank = false

-- the IRI of a local name in each of the two namespaces
unfoldable pub rdf : List ℕ → Term
rdf w = iri (codes "<http://www.w3.org/1999/02/22-rdf-syntax-ns#" ++ (w ++ codes ">"))

unfoldable pub rdfs : List ℕ → Term
rdfs w = iri (codes "<http://www.w3.org/2000/01/rdf-schema#" ++ (w ++ codes ">"))

-- the thirty IRIs that every book begins with, from number 0
unfoldable pub thirty : List Term
thirty =
    rdf (codes "type") ∷ rdf (codes "Property") ∷ rdf (codes "List") ∷ rdf (codes "Statement") ∷ rdf (codes "subject") ∷ rdf (codes "predicate") ∷ rdf (codes "object") ∷ rdf (codes "first") ∷ rdf (codes "rest") ∷ rdf (codes "value") ∷ rdf (codes "nil") ∷ rdf (codes "Seq") ∷ rdf (codes "Bag") ∷ rdf (codes "Alt") ∷ rdf (codes "_1")
    ∷ rdfs (codes "Resource") ∷ rdfs (codes "Class") ∷ rdfs (codes "Literal") ∷ rdfs (codes "Datatype") ∷ rdfs (codes "Container") ∷ rdfs (codes "ContainerMembershipProperty") ∷ rdfs (codes "domain") ∷ rdfs (codes "range") ∷ rdfs (codes "subClassOf") ∷ rdfs (codes "subPropertyOf") ∷ rdfs (codes "member") ∷ rdfs (codes "seeAlso") ∷ rdfs (codes "isDefinedBy") ∷ rdfs (codes "comment") ∷ rdfs (codes "label") ∷ []

-- the terms begin with the thirty
abbrev pub Begins : List Term → Type 0
Begins ts = take 30 ts ≡ thirty

-- what is left of a text after a front, and nothing where it has another front
abbrev pub after : List ℕ → List ℕ → List ℕ
after [] bs = bs
after (f ∷ fs) [] = []
after (f ∷ fs) (b ∷ bs) = cond (f == b) (after fs bs) []

-- decimal digits, then the closing bracket
abbrev pub digits_then_end : List ℕ → Bool
digits_then_end [] = false
digits_then_end (b ∷ []) = b == 62
digits_then_end (b ∷ (c ∷ bs)) = (nat_le 48 b && nat_le b 57) && digits_then_end (c ∷ bs)

-- a digit 1 to 9 first
abbrev pub number_then_end : List ℕ → Bool
number_then_end [] = false
number_then_end (b ∷ bs) = (nat_le 49 b && nat_le b 57) && digits_then_end bs

-- a container position: an IRI of the first namespace, `_`, and decimal digits, the first of them 1 to 9
abbrev pub position : Term → Bool
position (iri b) = number_then_end (after (codes "<http://www.w3.org/1999/02/22-rdf-syntax-ns#_") b)
position (literal b) = false
position blank = false

-- whether the term of a number is a name; past the list there is none
abbrev pub is_name : List Term → ℕ → Bool
is_name ts n = named (slice_index_or ts n blank)

-- the numbers, counted from k, of the terms that pass a test
abbrev pub where_from : (Term → Bool) → ℕ → List Term → List ℕ
where_from f k [] = []
where_from f k (t ∷ ts) = cond (f t) (k ∷ where_from f (suc k) ts) (where_from f (suc k) ts)

-- the names of the book, and its container positions, by number
abbrev pub names_of : List Term → List ℕ
names_of ts = where_from named 0 ts

abbrev pub positions_of : List Term → List ℕ
positions_of ts = where_from position 0 ts
