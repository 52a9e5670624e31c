-- The thirty IRIs, the container positions and the start sets, told a second time as the reference has them, to be compared
-- with what Terms, Vocabulary and Starts say. Assumes nothing.
use Rattle.std.specs.Prelude.{◌≡◌, ℕ, ◌+◌, ◌*◌, true, false, T, List, ◌++◌, length, codes, slice_index_or}
use Rattle.entailment.specs.Terms.{Term, iri, literal, blank, named, position, names_of, positions_of, rdf, rdfs, thirty}
use Rattle.entailment.specs.Vocabulary.{#type, #Property, #List, #Statement, #subject, #predicate, #object, #first, #rest, #value, #nil, #Seq, #Bag, #Alt, #position_1, #Resource, #Class, #Literal, #Datatype, #Container, #CMP, #domain, #range, #subClassOf, #subPropertyOf, #member, #seeAlso, #isDefinedBy, #comment, #label}
use Rattle.entailment.specs.Starts.{rdf_fixed, rdfs_fixed, rdf_start, rdfs_start}
use Rattle.entailment.specs.Closure.{different}

-- the term of number k is the IRI of a local name in the first namespace, or in the second
abbrev pub RdfName : ℕ → List ℕ → Type 0
RdfName k w = slice_index_or thirty k blank ≡ rdf w

abbrev pub RdfsName : ℕ → List ℕ → Type 0
RdfsName k w = slice_index_or thirty k blank ≡ rdfs w

-- The thirty are spelled as the table says, row by row; one spelling of each namespace is written whole.
abbrev pub ThirtyNamed : Type 0
ThirtyNamed =
    (length thirty ≡ 30)
    × (rdf (codes "type") ≡ iri (codes "<http://www.w3.org/1999/02/22-rdf-syntax-ns#type>"))
    × (rdfs (codes "Resource") ≡ iri (codes "<http://www.w3.org/2000/01/rdf-schema#Resource>"))
    × RdfName 0 (codes "type")
    × RdfName 1 (codes "Property")
    × RdfName 2 (codes "List")
    × RdfName 3 (codes "Statement")
    × RdfName 4 (codes "subject")
    × RdfName 5 (codes "predicate")
    × RdfName 6 (codes "object")
    × RdfName 7 (codes "first")
    × RdfName 8 (codes "rest")
    × RdfName 9 (codes "value")
    × RdfName 10 (codes "nil")
    × RdfName 11 (codes "Seq")
    × RdfName 12 (codes "Bag")
    × RdfName 13 (codes "Alt")
    × RdfName 14 (codes "_1")
    × RdfsName 15 (codes "Resource")
    × RdfsName 16 (codes "Class")
    × RdfsName 17 (codes "Literal")
    × RdfsName 18 (codes "Datatype")
    × RdfsName 19 (codes "Container")
    × RdfsName 20 (codes "ContainerMembershipProperty")
    × RdfsName 21 (codes "domain")
    × RdfsName 22 (codes "range")
    × RdfsName 23 (codes "subClassOf")
    × RdfsName 24 (codes "subPropertyOf")
    × RdfsName 25 (codes "member")
    × RdfsName 26 (codes "seeAlso")
    × RdfsName 27 (codes "isDefinedBy")
    × RdfsName 28 (codes "comment")
    × RdfsName 29 (codes "label")

-- Their names here stand for the table's numbers.
abbrev pub Numbered : Type 0
Numbered =
    (#type ≡ 0)
    × (#Property ≡ 1)
    × (#List ≡ 2)
    × (#Statement ≡ 3)
    × (#subject ≡ 4)
    × (#predicate ≡ 5)
    × (#object ≡ 6)
    × (#first ≡ 7)
    × (#rest ≡ 8)
    × (#value ≡ 9)
    × (#nil ≡ 10)
    × (#Seq ≡ 11)
    × (#Bag ≡ 12)
    × (#Alt ≡ 13)
    × (#position_1 ≡ 14)
    × (#Resource ≡ 15)
    × (#Class ≡ 16)
    × (#Literal ≡ 17)
    × (#Datatype ≡ 18)
    × (#Container ≡ 19)
    × (#CMP ≡ 20)
    × (#domain ≡ 21)
    × (#range ≡ 22)
    × (#subClassOf ≡ 23)
    × (#subPropertyOf ≡ 24)
    × (#member ≡ 25)
    × (#seeAlso ≡ 26)
    × (#isDefinedBy ≡ 27)
    × (#comment ≡ 28)
    × (#label ≡ 29)

-- a term with a given spelling in the first namespace
abbrev spelled : List ℕ → Term
spelled w = iri (codes "<http://www.w3.org/1999/02/22-rdf-syntax-ns#" ++ (w ++ codes ">"))

-- Which terms are container positions, and which are names.
abbrev pub PositionsAndNames : Type 0
PositionsAndNames =
    (position (spelled (codes "_1")) ≡ true)
    × (position (spelled (codes "_20")) ≡ true)
    × (position (spelled (codes "_")) ≡ false)
    × (position (spelled (codes "_0")) ≡ false)
    × (position (spelled (codes "_01")) ≡ false)
    × (position (spelled (codes "_1a")) ≡ false)
    × (named (iri (codes "<x:card>")) ≡ true)
    × (named (literal (codes "\"a\"")) ≡ true)
    × (named blank ≡ false)

-- How many triples the start sets have over every book, all of them different, and how many over the terms of one.
abbrev pub StartSizes : Type 0
StartSizes =
    (length rdf_fixed ≡ 8) × (length rdfs_fixed ≡ 38) × T (different (rdf_fixed ++ rdfs_fixed))
    × ((ts : List Term) → length (rdf_start ts) ≡ 8 + length (positions_of ts))
    × ((ts : List Term) → length (rdfs_start ts) ≡ 38 + (length (names_of ts) + 3 * length (positions_of ts)))
