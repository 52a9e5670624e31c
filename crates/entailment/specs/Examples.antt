-- The examples of the halls: a regime, terms, kept triples, a goal, and whether it is entailed. Assumes nothing.
use Rattle.std.specs.Prelude.{ℕ, Bool, true, false, List, [], ◌∷◌, ◌++◌, map, codes, MatchBool}
use Rattle.std.specs.List.{AllByRecursion}
use Rattle.triples.specs.declared.triple.Triple.{Triple}
use Rattle.entailment.specs.declared.regime.Regime.{Regime}
use Rattle.entailment.specs.declared.regime.Regime.TheVariants.{Simple, Rdf, Rdfs}
use Rattle.entailment.specs.declared.goal.Position.{Position}
use Rattle.entailment.specs.declared.goal.Position.TheVariants.{Name, Blank}
use Rattle.entailment.specs.declared.goal.GoalRow.{GoalRow}
use Rattle.entailment.specs.Terms.{Term, iri, literal, blank, thirty}
use Rattle.entailment.specs.Vocabulary.{#type, #Property, #List, #Statement, #subject, #predicate, #object, #first, #rest, #value, #nil, #Seq, #Bag, #Alt, #position_1, #Resource, #Class, #Literal, #Datatype, #Container, #CMP, #domain, #range, #subClassOf, #subPropertyOf, #member, #seeAlso, #isDefinedBy, #comment, #label}
use Rattle.entailment.specs.Rows.{triple}
use Rattle.entailment.specs.Entailment.{Entails}

-- the terms after the thirty have numbers from 30
pub record Example : Type 0 where
  pub regime : Regime
  pub more : List Term
  pub kept : List Triple
  pub goal : List GoalRow
  pub entailed : Bool

-- the example's verdict is right
abbrev pub Holds : Example → Type 0
Holds e =
    MatchBool e.entailed
    (Entails e.regime (thirty ++ e.more) e.kept e.goal)
    (Entails e.regime (thirty ++ e.more) e.kept e.goal → ⊥)

abbrev row : Position → Position → Position → GoalRow
row s p o = record { subject = s; predicate = p; object = o }

-- Family SC Pass, Pass SC Item. Family SC Item.
abbrev chain : Regime → Bool → Example
chain r verdict = record {
  regime = r;
  more = iri (codes "<x:Family>") ∷ iri (codes "<x:Pass>") ∷ iri (codes "<x:Item>") ∷ [];
  kept = triple 30 #subClassOf 31 ∷ triple 31 #subClassOf 32 ∷ [];
  goal = row (Name 30) (Name #subClassOf) (Name 32) ∷ [];
  entailed = verdict;
}

-- opens domain Pass, card opens Ropes. The term n has type Pass, where card is 32 and Ropes is 33.
abbrev domain_of : ℕ → Bool → Example
domain_of n verdict = record {
  regime = Rdfs;
  more = iri (codes "<x:opens>") ∷ iri (codes "<x:Pass>") ∷ iri (codes "<x:card>") ∷ iri (codes "<x:Ropes>") ∷ [];
  kept = triple 30 #domain 31 ∷ triple 32 30 33 ∷ [];
  goal = row (Name n) (Name #type) (Name 31) ∷ [];
  entailed = verdict;
}

-- opens SP _:k, _:k domain Pass, card opens Ropes. card type Pass.
abbrev blank_property : Example
blank_property = record {
  regime = Rdfs;
  more = iri (codes "<x:opens>") ∷ blank ∷ iri (codes "<x:Pass>") ∷ iri (codes "<x:card>") ∷ iri (codes "<x:Ropes>") ∷ [];
  kept = triple 30 #subPropertyOf 31 ∷ triple 31 #domain 32 ∷ triple 33 30 34 ∷ [];
  goal = row (Name 33) (Name #type) (Name 32) ∷ [];
  entailed = true;
}

-- card opens Ropes. The goal blank 0 opens the goal blank y.
abbrev opening : ℕ → Bool → Example
opening y verdict = record {
  regime = Rdfs;
  more = iri (codes "<x:card>") ∷ iri (codes "<x:opens>") ∷ iri (codes "<x:Ropes>") ∷ [];
  kept = triple 30 31 32 ∷ [];
  goal = row (Blank 0) (Name 31) (Blank y) ∷ [];
  entailed = verdict;
}

-- card note "a", note range Text. _:b type Text.
abbrev literal_in_range : Example
literal_in_range = record {
  regime = Rdfs;
  more = iri (codes "<x:card>") ∷ iri (codes "<x:note>") ∷ literal (codes "\"a\"") ∷ iri (codes "<x:Text>") ∷ [];
  kept = triple 30 31 32 ∷ triple 31 #range 33 ∷ [];
  goal = row (Blank 0) (Name #type) (Name 33) ∷ [];
  entailed = true;
}

-- nothing kept
abbrev nothing_kept : Regime → List GoalRow → Bool → Example
nothing_kept r g verdict = record { regime = r; more = []; kept = []; goal = g; entailed = verdict }

-- _:b type CMP
abbrev some_membership : List GoalRow
some_membership = row (Blank 0) (Name #type) (Name #CMP) ∷ []

-- card note "a". card note "a": the literal stands in the goal as a name.
abbrev literal_by_name : Example
literal_by_name = record {
  regime = Simple;
  more = iri (codes "<x:card>") ∷ iri (codes "<x:note>") ∷ literal (codes "\"a\"") ∷ [];
  kept = triple 30 31 32 ∷ [];
  goal = row (Name 30) (Name 31) (Name 32) ∷ [];
  entailed = true;
}

-- each of some names has one predicate with one object
abbrev pub have : List ℕ → ℕ → ℕ → List GoalRow
have xs p o = map (λ x. row (Name x) (Name p) (Name o)) xs

-- The start sets over a new book, row by row as the reference prints them. They are written here a second time, to be
-- compared with Starts, and cite nothing of it.
abbrev pub rdf_table : List GoalRow
rdf_table =
    have (#nil ∷ []) #type #List
    ++ have (#type ∷ #subject ∷ #predicate ∷ #object ∷ #first ∷ #rest ∷ #value ∷ #position_1 ∷ []) #type #Property

abbrev the_thirty : List ℕ
the_thirty = 0 ∷ 1 ∷ 2 ∷ 3 ∷ 4 ∷ 5 ∷ 6 ∷ 7 ∷ 8 ∷ 9 ∷ 10 ∷ 11 ∷ 12 ∷ 13 ∷ 14 ∷ 15 ∷ 16 ∷ 17 ∷ 18 ∷ 19 ∷ 20 ∷ 21 ∷ 22 ∷ 23 ∷ 24 ∷ 25 ∷ 26 ∷ 27 ∷ 28 ∷ 29 ∷ []

abbrev pub rdfs_table : List GoalRow
rdfs_table =
    have the_thirty #type #Resource
    ++ have (#position_1 ∷ []) #type #CMP
    ++ have (#member ∷ #seeAlso ∷ #isDefinedBy ∷ #value ∷ #type ∷ #comment ∷ #label ∷ #position_1 ∷ []) #domain #Resource
    ++ have (#subject ∷ #predicate ∷ #object ∷ []) #domain #Statement
    ++ have (#domain ∷ #range ∷ #subPropertyOf ∷ []) #domain #Property
    ++ have (#subClassOf ∷ []) #domain #Class
    ++ have (#first ∷ #rest ∷ []) #domain #List
    ++ have (#member ∷ #seeAlso ∷ #isDefinedBy ∷ #value ∷ #subject ∷ #predicate ∷ #object ∷ #first ∷ #position_1 ∷ []) #range #Resource
    ++ have (#type ∷ #domain ∷ #range ∷ #subClassOf ∷ []) #range #Class
    ++ have (#subPropertyOf ∷ []) #range #Property
    ++ have (#rest ∷ []) #range #List
    ++ have (#comment ∷ #label ∷ []) #range #Literal
    ++ have (#Alt ∷ #Bag ∷ #Seq ∷ []) #subClassOf #Container
    ++ have (#CMP ∷ []) #subClassOf #Property
    ++ have (#Datatype ∷ []) #subClassOf #Class
    ++ have (#isDefinedBy ∷ []) #subPropertyOf #seeAlso

-- nothing kept, and the book has one more term, 30
abbrev with_term : Regime → Term → List GoalRow → Bool → Example
with_term r t g verdict = record { regime = r; more = t ∷ []; kept = []; goal = g; entailed = verdict }

-- _10: a container position of two digits
abbrev position_10 : Term
position_10 = iri (codes "<http://www.w3.org/1999/02/22-rdf-syntax-ns#_10>")

abbrev pub position_rows : List GoalRow
position_rows = have (30 ∷ []) #type #CMP ++ have (30 ∷ []) #domain #Resource ++ have (30 ∷ []) #range #Resource

-- _01, which is none
abbrev zero_first : Term
zero_first = iri (codes "<http://www.w3.org/1999/02/22-rdf-syntax-ns#_01>")

-- In RDF nothing is a class.
abbrev some_class : List GoalRow
some_class = row (Blank 0) (Name #type) (Name #Class) ∷ []

-- No list is a class; if type had the domain Class, nil would be both.
abbrev list_and_class : List GoalRow
list_and_class = row (Blank 0) (Name #type) (Name #List) ∷ row (Blank 0) (Name #type) (Name #Class) ∷ []

-- No property is a class.
abbrev property_and_class : List GoalRow
property_and_class = row (Blank 0) (Name #type) (Name #Property) ∷ row (Blank 0) (Name #type) (Name #Class) ∷ []

-- A list is no container.
abbrev list_container : List GoalRow
list_container = have (#List ∷ []) #subClassOf #Container

abbrev pub examples : List Example
examples =
    chain Rdfs true
    ∷ chain Simple false
    ∷ domain_of 32 true
    ∷ domain_of 33 false
    ∷ blank_property
    ∷ opening 0 false
    ∷ opening 1 true
    ∷ literal_in_range
    ∷ nothing_kept Rdfs some_membership true
    ∷ nothing_kept Rdf some_membership false
    ∷ nothing_kept Rdfs [] true
    ∷ literal_by_name
    ∷ nothing_kept Rdf rdf_table true
    ∷ nothing_kept Rdfs rdfs_table true
    ∷ with_term Rdf position_10 (have (30 ∷ []) #type #Property) true
    ∷ with_term Rdfs position_10 position_rows true
    ∷ with_term Rdfs zero_first (have (30 ∷ []) #type #CMP) false
    ∷ nothing_kept Rdf some_class false
    ∷ nothing_kept Rdfs list_and_class false
    ∷ nothing_kept Rdfs property_and_class false
    ∷ nothing_kept Rdfs list_container false
    ∷ []

abbrev pub ExamplesHold : Type 0
ExamplesHold = AllByRecursion Holds examples
