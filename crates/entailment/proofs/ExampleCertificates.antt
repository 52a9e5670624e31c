-- A certificate for each example. antt computes that all of them pass, so the examples hold.
use Rattle.std.proofs.Common.{ℕ, List, [], ◌∷◌, ◌++◌, map}
use Rattle.triples.specs.declared.triple.Triple.{Triple}
use Rattle.entailment.specs.declared.goal.GoalRow.{GoalRow}
use Rattle.entailment.specs.declared.regime.Row.TheVariants.{Rdfs2, Rdfs3, Rdfs7, Rdfs11}
use Rattle.entailment.specs.Terms.{rdf, rdfs, thirty}
use Rattle.entailment.specs.Vocabulary.{#type, #Property, #List, #Statement, #subject, #predicate, #object, #first, #rest, #value, #Seq, #Bag, #Alt, #position_1, #Resource, #Class, #Literal, #Datatype, #Container, #CMP, #domain, #range, #subClassOf, #subPropertyOf, #member, #seeAlso, #isDefinedBy, #comment, #label}
use Rattle.entailment.specs.Rows.{triple}
use Rattle.entailment.specs.Starts.{each}
use Rattle.entailment.specs.Entailment.{put}
use Rattle.entailment.specs.Examples.{have, rdf_table, rdfs_table, position_rows, examples, ExamplesHold}
use Rattle.entailment.proofs.Lines.{Line, from_start, from_kept, by_row}
use Rattle.entailment.proofs.Certificates.{Certificates, derivation, closed_set, all_hold}

-- the properties and the classes of the RDFS closure where nothing is kept
abbrev properties : List ℕ
properties = #type ∷ #subject ∷ #predicate ∷ #object ∷ #first ∷ #rest ∷ #value ∷ #position_1 ∷ #domain ∷ #range ∷ #subClassOf ∷ #subPropertyOf ∷ #member ∷ #seeAlso ∷ #isDefinedBy ∷ #comment ∷ #label ∷ []

abbrev classes : List ℕ
classes = #Property ∷ #List ∷ #Statement ∷ #Seq ∷ #Bag ∷ #Alt ∷ #Resource ∷ #Class ∷ #Literal ∷ #Datatype ∷ #Container ∷ #CMP ∷ []

abbrev reflexive : ℕ → List ℕ → List Triple
reflexive p xs = map (λ x. triple x p x) xs

-- what the rows give where nothing is kept, and for some properties and classes more
abbrev given_by_rows : List ℕ → List ℕ → List Triple
given_by_rows ps cs =
    each #type #Property (properties ++ ps)
    ++ (each #type #Class (classes ++ cs)
    ++ (reflexive #subPropertyOf (properties ++ ps)
    ++ (reflexive #subClassOf (classes ++ cs)
    ++ (each #subClassOf #Resource (classes ++ cs)
    ++ each #subPropertyOf #member (#position_1 ∷ [])))))

-- each row of a goal, which has no blanks, is a triple of the start set
abbrev rows_start : List GoalRow → List Line
rows_start g = map (λ r. from_start (put (λ k. 0) r)) g

-- a certificate, and those of the examples after it
infixr 30 ◌&◌
abbrev ◌&◌ : {A B : Type 0} → A → B → A × B
a & b = (a, b)

abbrev certificates : Certificates examples
certificates =
    derivation (from_kept (triple 30 #subClassOf 31) ∷ from_kept (triple 31 #subClassOf 32) ∷ by_row Rdfs11 (0 ∷ 1 ∷ []) ∷ []) []
    & closed_set []
    & derivation (from_kept (triple 30 #domain 31) ∷ from_kept (triple 32 30 33) ∷ by_row Rdfs2 (0 ∷ 1 ∷ []) ∷ []) []
    & closed_set (triple 32 #type 31 ∷ given_by_rows (30 ∷ []) (31 ∷ []))
    & derivation (from_kept (triple 30 #subPropertyOf 31) ∷ from_kept (triple 31 #domain 32) ∷ from_kept (triple 33 30 34) ∷ by_row Rdfs7 (0 ∷ 2 ∷ []) ∷ by_row Rdfs2 (1 ∷ 3 ∷ []) ∷ []) []
    & closed_set (given_by_rows (31 ∷ []) [])
    & derivation (from_kept (triple 30 31 32) ∷ []) (30 ∷ 32 ∷ [])
    & derivation (from_kept (triple 30 31 32) ∷ from_kept (triple 31 #range 33) ∷ by_row Rdfs3 (1 ∷ 0 ∷ []) ∷ []) (32 ∷ [])
    & derivation (from_start (triple #position_1 #type #CMP) ∷ []) (#position_1 ∷ [])
    & closed_set []
    & derivation [] []
    & derivation (from_kept (triple 30 31 32) ∷ []) []
    & derivation (rows_start rdf_table) []
    & derivation (rows_start rdfs_table) []
    & derivation (rows_start (have (30 ∷ []) #type #Property)) []
    & derivation (rows_start position_rows) []
    & closed_set (given_by_rows [] [])
    & closed_set []
    & closed_set (given_by_rows [] [])
    & closed_set (given_by_rows [] [])
    & closed_set (given_by_rows [] [])
    & tt

pub examples_hold : ExamplesHold
unfolding thirty rdf rdfs
examples_hold = all_hold examples certificates tt
