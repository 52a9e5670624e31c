-- An inner device: the rows as the passes take them. A pattern for the first premise; a pattern for the second where the first
-- is known, or none for a row of one premise, which is then its second too; and the conclusion. No public contract ends on it.
-- Assumes nothing.
use Rattle.std.specs.Prelude.{◌≡◌, ℕ, Bool, true, false, Some, None, Option, MatchOption, List, [], ◌∷◌}
use Rattle.triples.specs.declared.triple.Triple.{Triple}
use Rattle.triples.specs.declared.question.Pattern.{Pattern}
use Rattle.triples.specs.Questions.{Fits, free}
use Rattle.entailment.specs.declared.regime.Regime.{Regime}
use Rattle.entailment.specs.declared.regime.Regime.TheVariants.{Simple, Rdf, Rdfs}
use Rattle.entailment.specs.declared.regime.Row.{Row}
use Rattle.entailment.specs.declared.regime.Row.TheVariants.{RdfD2, Rdfs2, Rdfs3, Rdfs4a, Rdfs4b, Rdfs5, Rdfs6, Rdfs7, Rdfs8, Rdfs9, Rdfs10, Rdfs11, Rdfs12, Rdfs13}
use Rattle.entailment.specs.Vocabulary.{#type, #Property, #Resource, #Class, #Literal, #Datatype, #CMP, #domain, #range, #subClassOf, #subPropertyOf, #member}
use Rattle.entailment.specs.Rows.{triple, rows}
use Rattle.closing.specs.declared.rows.Part.{Part}
use Rattle.closing.specs.declared.rows.Part.TheVariants.{Subject, Predicate, Object}

-- the rows of a regime
abbrev pub rows_of : Regime → List Row
rows_of Simple = []
rows_of Rdf = RdfD2 ∷ []
rows_of Rdfs = rows

abbrev pub by_predicate : ℕ → Pattern
by_predicate p = record { subject = None; predicate = Some p; object = None }

abbrev pub by_type : ℕ → Pattern
by_type o = record { subject = None; predicate = Some #type; object = Some o }

abbrev pub by_subject : ℕ → ℕ → Pattern
by_subject s p = record { subject = Some s; predicate = Some p; object = None }

abbrev pub first_of : Row → Pattern
first_of RdfD2 = free
first_of Rdfs2 = by_predicate #domain
first_of Rdfs3 = by_predicate #range
first_of Rdfs4a = free
first_of Rdfs4b = free
first_of Rdfs5 = by_predicate #subPropertyOf
first_of Rdfs6 = by_type #Property
first_of Rdfs7 = by_predicate #subPropertyOf
first_of Rdfs8 = by_type #Class
first_of Rdfs9 = by_predicate #subClassOf
first_of Rdfs10 = by_type #Class
first_of Rdfs11 = by_predicate #subClassOf
first_of Rdfs12 = by_type #CMP
first_of Rdfs13 = by_type #Datatype

abbrev pub second_of : Row → Triple → Option Pattern
second_of RdfD2 t = None
second_of Rdfs2 t = Some (by_predicate t.subject)
second_of Rdfs3 t = Some (by_predicate t.subject)
second_of Rdfs4a t = None
second_of Rdfs4b t = None
second_of Rdfs5 t = Some (by_subject t.object t.predicate)
second_of Rdfs6 t = None
second_of Rdfs7 t = Some (by_predicate t.subject)
second_of Rdfs8 t = None
second_of Rdfs9 t = Some (by_type t.subject)
second_of Rdfs10 t = None
second_of Rdfs11 t = Some (by_subject t.object t.predicate)
second_of Rdfs12 t = None
second_of Rdfs13 t = None

abbrev pub conclusion_of : Row → Triple → Triple → Triple
conclusion_of RdfD2 t u = triple t.predicate #type #Property
conclusion_of Rdfs2 t u = triple u.subject #type t.object
conclusion_of Rdfs3 t u = triple u.object #type t.object
conclusion_of Rdfs4a t u = triple t.subject #type #Resource
conclusion_of Rdfs4b t u = triple t.object #type #Resource
conclusion_of Rdfs5 t u = triple t.subject #subPropertyOf u.object
conclusion_of Rdfs6 t u = triple t.subject #subPropertyOf t.subject
conclusion_of Rdfs7 t u = triple u.subject t.object u.object
conclusion_of Rdfs8 t u = triple t.subject #subClassOf #Resource
conclusion_of Rdfs9 t u = triple u.subject #type t.object
conclusion_of Rdfs10 t u = triple t.subject #subClassOf t.subject
conclusion_of Rdfs11 t u = triple t.subject #subClassOf u.object
conclusion_of Rdfs12 t u = triple t.subject #subPropertyOf #member
conclusion_of Rdfs13 t u = triple t.subject #subClassOf #Literal

-- u stands as the row's second premise beside the first premise t
abbrev pub Partner : Row → Triple → Triple → Type 0
Partner row t u = MatchOption (second_of row t) (u ≡ t) (λ p. Fits p u)

-- the rows whose conclusion is the second premise where the first has one term at both ends
abbrev pub repeats : Row → Bool
repeats Rdfs5 = true
repeats Rdfs7 = true
repeats Rdfs9 = true
repeats Rdfs11 = true
repeats row = false

-- the one part of the premise that the conclusion speaks of, of a row that takes every triple as its premise
abbrev pub part_of : Row → Option Part
part_of RdfD2 = Some Predicate
part_of Rdfs4a = Some Subject
part_of Rdfs4b = Some Object
part_of row = None

abbrev pub term_at : Part → Triple → ℕ
term_at Subject t = t.subject
term_at Predicate t = t.predicate
term_at Object t = t.object

abbrev pub by_part : Part → ℕ → Pattern
by_part Subject n = record { subject = Some n; predicate = None; object = None }
by_part Predicate n = by_predicate n
by_part Object n = record { subject = None; predicate = None; object = Some n }

-- the last triple up to which each second premise with the same predicate gives the same conclusion
abbrev pub last_alike : Row → Triple → Triple
last_alike Rdfs2 u = triple u.subject u.predicate 255
last_alike row u = u
