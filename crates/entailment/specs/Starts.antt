-- The start sets: the triples that a regime holds true before anything is kept. Assumes nothing.
use Rattle.std.specs.Prelude.{ℕ, List, [], ◌∷◌, ◌++◌, map}
use Rattle.triples.specs.declared.triple.Triple.{Triple}
use Rattle.entailment.specs.declared.regime.Regime.{Regime}
use Rattle.entailment.specs.declared.regime.Regime.TheVariants.{Simple, Rdf, Rdfs}
use Rattle.entailment.specs.Terms.{Term, names_of, positions_of}
use Rattle.entailment.specs.Vocabulary.{#type, #Property, #List, #Statement, #subject, #predicate, #object, #first, #rest, #value, #nil, #Seq, #Bag, #Alt, #Resource, #Class, #Literal, #Datatype, #Container, #CMP, #domain, #range, #subClassOf, #subPropertyOf, #member, #seeAlso, #isDefinedBy, #comment, #label}
use Rattle.entailment.specs.Rows.{triple}

-- each of some terms as subject, with one predicate and one object
abbrev pub each : ℕ → ℕ → List ℕ → List Triple
each p o xs = map (λ x. triple x p o) xs

-- the RDF start set: what it has over every book, and for the book's container positions
abbrev pub rdf_fixed : List Triple
rdf_fixed =
    each #type #List (#nil ∷ [])
    ++ each #type #Property (#type ∷ #subject ∷ #predicate ∷ #object ∷ #first ∷ #rest ∷ #value ∷ [])

abbrev pub rdf_start : List Term → List Triple
rdf_start ts = rdf_fixed ++ each #type #Property (positions_of ts)

-- what the RDFS start set has over every book
abbrev pub rdfs_fixed : List Triple
rdfs_fixed =
    each #domain #Resource (#member ∷ #seeAlso ∷ #isDefinedBy ∷ #value ∷ #type ∷ #comment ∷ #label ∷ [])
    ++ (each #domain #Statement (#subject ∷ #predicate ∷ #object ∷ [])
    ++ (each #domain #Property (#domain ∷ #range ∷ #subPropertyOf ∷ [])
    ++ (each #domain #Class (#subClassOf ∷ [])
    ++ (each #domain #List (#first ∷ #rest ∷ [])
    ++ (each #range #Resource (#member ∷ #seeAlso ∷ #isDefinedBy ∷ #value ∷ #subject ∷ #predicate ∷ #object ∷ #first ∷ [])
    ++ (each #range #Class (#type ∷ #domain ∷ #range ∷ #subClassOf ∷ [])
    ++ (each #range #Property (#subPropertyOf ∷ [])
    ++ (each #range #List (#rest ∷ [])
    ++ (each #range #Literal (#comment ∷ #label ∷ [])
    ++ (each #subClassOf #Container (#Alt ∷ #Bag ∷ #Seq ∷ [])
    ++ (each #subClassOf #Property (#CMP ∷ [])
    ++ (each #subClassOf #Class (#Datatype ∷ [])
    ++ each #subPropertyOf #seeAlso (#isDefinedBy ∷ [])))))))))))))

-- what it has for the names of the book, and for its container positions
abbrev pub names_start : List Term → List Triple
names_start ts = each #type #Resource (names_of ts)

abbrev pub positions_start : List Term → List Triple
positions_start ts =
    each #type #CMP (positions_of ts)
    ++ (each #domain #Resource (positions_of ts)
    ++ each #range #Resource (positions_of ts))

abbrev pub rdfs_start : List Term → List Triple
rdfs_start ts = rdfs_fixed ++ (names_start ts ++ positions_start ts)

-- the start set of a regime over the terms of a book
abbrev pub start : Regime → List Term → List Triple
start Simple ts = []
start Rdf ts = rdf_start ts
start Rdfs ts = rdf_start ts ++ rdfs_start ts
