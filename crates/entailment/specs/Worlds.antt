-- The worlds of the three regimes. The things of a world are whole numbers, and its sets are given by tests. Assumes nothing.
use Rattle.std.specs.Prelude.{ℕ, Bool, cond, T, List}
use Rattle.std.specs.List.{AllByRecursion}
use Rattle.triples.specs.declared.triple.Triple.{Triple}
use Rattle.entailment.specs.declared.regime.Regime.{Regime}
use Rattle.entailment.specs.declared.regime.Regime.TheVariants.{Simple, Rdf, Rdfs}
use Rattle.entailment.specs.Terms.{Term, is_name}
use Rattle.entailment.specs.Vocabulary.{#type, #Property, #Resource, #Class, #Literal, #Datatype, #CMP, #domain, #range, #subClassOf, #subPropertyOf, #member}
use Rattle.entailment.specs.Starts.{rdf_start, rdfs_start}

-- a world over the names of a book; `pairs a u v` says that a has the pair of u and v
pub record World (ts : List Term) : Type 0 where
  pub thing : ℕ → Bool
  pub property : ℕ → Bool
  pub pairs : ℕ → ℕ → ℕ → Bool
  pub denotes : ℕ → ℕ
  pub nonempty : (x : ℕ) × T (thing x)
  pub properties_are_things : (a : ℕ) → T (property a) → T (thing a)
  pub only_properties_pair : (a u v : ℕ) → T (pairs a u v) → T (property a)
  pub pairs_are_of_things : (a u v : ℕ) → T (pairs a u v) → T (thing u) × T (thing v)
  pub names_denote_things : (n : ℕ) → T (is_name ts n) → T (thing (denotes n))

-- a triple is true where f says what its terms stand for: its predicate stands for a property, which has the pair of what its
-- subject and its object stand for
abbrev pub True : {ts : List Term} → World ts → (ℕ → ℕ) → Triple → Type 0
True w f t = T (w.property (f t.predicate)) × T (w.pairs (f t.predicate) (f t.subject) (f t.object))

-- a triple of names is true
abbrev pub TrueOfNames : {ts : List Term} → World ts → Triple → Type 0
TrueOfNames w t = True w w.denotes t

-- the name n pairs u with v
abbrev pub Pairs : {ts : List Term} → World ts → ℕ → ℕ → ℕ → Type 0
Pairs w n u v = T (w.pairs (w.denotes n) u v)

-- u is in c
abbrev pub In : {ts : List Term} → World ts → ℕ → ℕ → Type 0
In w u c = Pairs w #type u c

-- what makes a world an RDF world
pub record RdfWorld {ts : List Term} (w : World ts) : Type 0 where
  pub property_is_typed : (x : ℕ) → T (w.property x) → In w x (w.denotes #Property)
  pub typed_is_property : (x : ℕ) → In w x (w.denotes #Property) → T (w.property x)
  pub start_is_true : AllByRecursion (TrueOfNames w) (rdf_start ts)

-- what makes an RDF world an RDFS world
pub record RdfsWorld {ts : List Term} (w : World ts) : Type 0 where
  pub all_resources : (x : ℕ) → T (w.thing x) → In w x (w.denotes #Resource)
  pub start_is_true : AllByRecursion (TrueOfNames w) (rdfs_start ts)
  pub domains : (a c u v : ℕ) → Pairs w #domain a c → T (w.pairs a u v) → In w u c
  pub ranges : (a c u v : ℕ) → Pairs w #range a c → T (w.pairs a u v) → In w v c
  pub sp_reflexive : (a : ℕ) → T (w.property a) → Pairs w #subPropertyOf a a
  pub sp_transitive : (a b c : ℕ) → Pairs w #subPropertyOf a b → Pairs w #subPropertyOf b c → Pairs w #subPropertyOf a c
  pub sp_properties : (a b : ℕ) → Pairs w #subPropertyOf a b → T (w.property a) × T (w.property b)
  pub sp_pairs : (a b u v : ℕ) → Pairs w #subPropertyOf a b → T (w.pairs a u v) → T (w.pairs b u v)
  pub sc_reflexive : (c : ℕ) → In w c (w.denotes #Class) → Pairs w #subClassOf c c
  pub sc_transitive : (c d e : ℕ) → Pairs w #subClassOf c d → Pairs w #subClassOf d e → Pairs w #subClassOf c e
  pub sc_classes : (c d : ℕ) → Pairs w #subClassOf c d → In w c (w.denotes #Class) × In w d (w.denotes #Class)
  pub sc_members : (c d u : ℕ) → Pairs w #subClassOf c d → In w u c → In w u d
  pub classes_in_resource : (c : ℕ) → In w c (w.denotes #Class) → Pairs w #subClassOf c (w.denotes #Resource)
  pub datatypes_in_literal : (c : ℕ) → In w c (w.denotes #Datatype) → Pairs w #subClassOf c (w.denotes #Literal)
  pub memberships_under_member : (a : ℕ) → In w a (w.denotes #CMP) → Pairs w #subPropertyOf a (w.denotes #member)

-- a world of a regime
abbrev pub WorldOf : Regime → {ts : List Term} → World ts → Type 0
WorldOf Simple w = Unit {0}
WorldOf Rdf w = RdfWorld w
WorldOf Rdfs w = RdfWorld w × RdfsWorld w

-- an assignment of things
abbrev pub Assigns : {ts : List Term} → World ts → (ℕ → ℕ) → Type 0
Assigns w g = (n : ℕ) → T (w.thing (g n))

-- what a term stands for under an assignment of things to blanks
abbrev pub meaning : {ts : List Term} → World ts → (ℕ → ℕ) → ℕ → ℕ
meaning {ts} w g n = cond (is_name ts n) (w.denotes n) (g n)

-- the kept triples are true: one assignment serves all
abbrev pub MakesTrue : {ts : List Term} → World ts → List Triple → Type 0
MakesTrue w kept = (g : ℕ → ℕ) × Assigns w g × AllByRecursion (True w (meaning w g)) kept
