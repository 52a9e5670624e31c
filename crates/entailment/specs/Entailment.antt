-- Goals, when the kept triples entail one, and when one embeds in a set. Assumes nothing.
use Rattle.std.specs.Prelude.{ℕ, ◌<◌, T, List, length}
use Rattle.std.specs.List.{AllByRecursion}
use Rattle.triples.specs.declared.triple.Triple.{Triple}
use Rattle.triples.specs.Codes.{Inside}
use Rattle.triples.specs.Sets.{Graph}
use Rattle.entailment.specs.declared.regime.Regime.{Regime}
use Rattle.entailment.specs.declared.goal.Position.{Position}
use Rattle.entailment.specs.declared.goal.Position.TheVariants.{Name, Blank}
use Rattle.entailment.specs.declared.goal.GoalRow.{GoalRow}
use Rattle.entailment.specs.Terms.{Term, is_name, Begins}
use Rattle.entailment.specs.Rows.{triple}
use Rattle.entailment.specs.Closure.{Closure}
use Rattle.entailment.specs.Worlds.{World, WorldOf, Assigns, MakesTrue, True}

-- what a position stands for, where names stand for f and goal blanks for m
abbrev pub stands : (ℕ → ℕ) → (ℕ → ℕ) → Position → ℕ
stands f m (Name n) = f n
stands f m (Blank k) = m k

abbrev pub filled : (ℕ → ℕ) → (ℕ → ℕ) → GoalRow → Triple
filled f m g = triple (stands f m g.subject) (stands f m g.predicate) (stands f m g.object)

-- the row as a triple of terms, where the goal blanks go to the terms that m says
abbrev pub put : (ℕ → ℕ) → GoalRow → Triple
put m g = filled (λ n. n) m g

-- some map of goal blanks to terms puts every row into the set
abbrev pub Embeds : List Term → Graph → List GoalRow → Type 0
Embeds ts set goal = (m : ℕ → ℕ) × ((k : ℕ) → m k < length ts) × AllByRecursion (λ g. T (set (put m g))) goal

-- a goal is true in a world: some assignment of things to its blanks, its own, makes each row true
abbrev pub GoalTrue : {ts : List Term} → World ts → List GoalRow → Type 0
GoalTrue w goal = (m : ℕ → ℕ) × Assigns w m × AllByRecursion (λ g. True w (λ x. x) (filled w.denotes m g)) goal

-- every world of the regime that makes the kept triples true makes the goal true
abbrev pub Entails : Regime → List Term → List Triple → List GoalRow → Type 0
Entails r ts kept goal = (w : World ts) → WorldOf r w → MakesTrue w kept → GoalTrue w goal

-- each position of a row is a name of the book or a goal blank
abbrev pub PositionNamed : List Term → Position → Type 0
PositionNamed ts (Name n) = T (is_name ts n)
PositionNamed ts (Blank k) = Unit {0}

abbrev pub RowNamed : List Term → GoalRow → Type 0
RowNamed ts g = PositionNamed ts g.subject × PositionNamed ts g.predicate × PositionNamed ts g.object

-- the triple is of terms of the book
abbrev pub OfTerms : List Term → Triple → Type 0
OfTerms ts t = Inside (length ts) t

-- The theorem on worlds: over a set that is the closure, a goal embeds exactly when it is entailed.
abbrev pub Entailment : Type 0
Entailment =
    (r : Regime) (ts : List Term) (kept : List Triple) (goal : List GoalRow) (set : Graph)
    → Begins ts → AllByRecursion (OfTerms ts) kept → AllByRecursion (RowNamed ts) goal → Closure r ts kept set
    → (Embeds ts set goal → Entails r ts kept goal) × (Entails r ts kept goal → Embeds ts set goal)
