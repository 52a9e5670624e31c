-- Laws of the closure. Assumes nothing.
use Rattle.std.specs.Prelude.{ℕ, ◌<◌, ◌≤◌, Bool, true, false, T, List, ◌++◌, length}
use Rattle.std.specs.List.{ContainsAt as Has, AllByRecursion}
use Rattle.triples.specs.declared.triple.Triple.{Triple}
use Rattle.triples.specs.Codes.{width}
use Rattle.triples.specs.Sets.{Graph, among, size}
use Rattle.entailment.specs.declared.regime.Regime.{Regime}
use Rattle.entailment.specs.declared.regime.Regime.TheVariants.{Simple, Rdf, Rdfs}
use Rattle.entailment.specs.Terms.{Term, Begins}
use Rattle.entailment.specs.Closure.{Closure, InClosure, Derives, different, Exceeds}
use Rattle.entailment.specs.Entailment.{OfTerms}

-- The closure speaks only of terms of the book.
abbrev pub StaysWithinTerms : Type 0
StaysWithinTerms =
    (r : Regime) (ts : List Term) (kept : List Triple) → Begins ts → AllByRecursion (OfTerms ts) kept
    → (t : Triple) → InClosure r ts kept t → OfTerms ts t

-- There is a closure, and it is finite: a list of different triples.
abbrev pub ClosureExists : Type 0
ClosureExists =
    (r : Regime) (ts : List Term) (kept : List Triple) → Begins ts → AllByRecursion (OfTerms ts) kept
    → (l : List Triple) × T (different l) × Closure r ts kept (among l)

-- A triple has a derivation exactly when it lies in every closed set.
abbrev pub DerivationsAreLeast : Type 0
DerivationsAreLeast =
    (r : Regime) (ts : List Term) (kept : List Triple) → Begins ts → AllByRecursion (OfTerms ts) kept
    → (t : Triple) → (Derives r ts kept t → InClosure r ts kept t) × (InClosure r ts kept t → Derives r ts kept t)

-- the second regime has what the first has
abbrev pub extends : Regime → Regime → Bool
extends Simple s = true
extends Rdf Simple = false
extends Rdf Rdf = true
extends Rdf Rdfs = true
extends Rdfs Simple = false
extends Rdfs Rdf = false
extends Rdfs Rdfs = true

-- The closure grows with the kept triples, with the terms, and from regime to regime.
abbrev pub Grows : Type 0
Grows =
    (r s : Regime) (ts more : List Term) (kept wider : List Triple)
    → T (extends r s) → ((t : Triple) → Has kept t → Has wider t)
    → (t : Triple) → InClosure r ts kept t → InClosure s (ts ++ more) wider t

-- The closure exceeds a number exactly when a set that is the closure has more members.
abbrev pub ExceedsBySize : Type 0
ExceedsBySize =
    (r : Regime) (ts : List Term) (kept : List Triple) (set : Graph) (n : ℕ)
    → Begins ts → length ts ≤ width → AllByRecursion (OfTerms ts) kept → Closure r ts kept set
    → (Exceeds r ts kept n → n < size set) × (n < size set → Exceeds r ts kept n)
