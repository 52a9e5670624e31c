-- What a closing answers, and what the store holds then. Assumes nothing.
use Rattle.std.specs.Prelude.{◌≡◌, ℕ, ◌≤◌, List, ◌++◌, length, map, Ok, Err, Result}
use Rattle.std.specs.List.{AllByRecursion}
use Rattle.triples.specs.declared.triple.Triple.{Triple}
use Rattle.triples.specs.Sets.{Graph, empty, size}
use Rattle.entailment.specs.declared.regime.Regime.{Regime}
use Rattle.entailment.specs.Terms.{Term, thirty}
use Rattle.entailment.specs.Closure.{Closure, Exceeds}
use Rattle.entailment.specs.Entailment.{OfTerms}
use Rattle.closing.specs.declared.kinds.TermKind.{TermKind}
use Rattle.closing.specs.declared.refusal.Refusal.{Refusal}
use Rattle.closing.specs.declared.refusal.Refusal.TheVariants.{Outside, Full}
use Rattle.closing.specs.Kinds.{kind}

-- the number of a refusal
abbrev pub number : Refusal → ℕ
number Outside = 6
number Full = 22

-- there are no more terms than the side n, and the kept triples are of the terms
abbrev pub WithinSide : ℕ → List Term → List Triple → Type 0
WithinSide n ts kept = (length ts ≤ n) × AllByRecursion (OfTerms ts) kept

-- served: the set g is the closure, which does not exceed the capacity m, and the answer is its size
pub record Served (r : Regime) (ts : List Term) (kept : List Triple) (n m : ℕ) (g : Graph) (answer : ℕ) : Type 0 where
  pub within : WithinSide n ts kept
  pub closure : Closure r ts kept g
  pub room : ¬ Exceeds r ts kept m
  pub count : answer ≡ size g

-- when a closing is refused so
abbrev pub Refuses : Regime → List Term → List Triple → ℕ → ℕ → Refusal → Type 0
Refuses r ts kept n m Outside = ¬ WithinSide n ts kept
Refuses r ts kept n m Full = WithinSide n ts kept × Exceeds r ts kept m

-- what a closing at the side n and the capacity m answers, and the set g afterwards: a refusal leaves none
abbrev pub Closes : Regime → List Term → List Triple → ℕ → ℕ → Graph → Result ℕ Refusal → Type 0
Closes r ts kept n m g (Ok answer) = Served r ts kept n m g answer
Closes r ts kept n m g (Err e) = Refuses r ts kept n m e × (g ≡ empty)

-- P holds of the terms of every book whose terms after the thirty are of these kinds
abbrev pub ForTermsOf : List TermKind → (List Term → Type 0) → Type 0
ForTermsOf kinds P = (more : List Term) → map kind more ≡ kinds → P (thirty ++ more)

-- there are terms of any kinds
abbrev pub KindsHaveTerms : Type 0
KindsHaveTerms = (kinds : List TermKind) → (more : List Term) × (map kind more ≡ kinds)
