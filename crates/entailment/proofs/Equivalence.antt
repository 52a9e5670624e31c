-- Over a set that is the closure, a goal embeds exactly when it is entailed.
use Rattle.std.proofs.Common.{List, ◌++◌, drop, subst}
use Rattle.std.specs.List.{AllByRecursion}
use Rattle.triples.specs.declared.triple.Triple.{Triple}
use Rattle.triples.specs.Sets.{Graph}
use Rattle.entailment.specs.declared.regime.Regime.{Regime}
use Rattle.entailment.specs.declared.goal.GoalRow.{GoalRow}
use Rattle.entailment.specs.Terms.{Term, Begins, thirty}
use Rattle.entailment.specs.Closure.{Closure}
use Rattle.entailment.specs.Entailment.{Entailment, Embeds, Entails, OfTerms, RowNamed}
use Rattle.entailment.proofs.Within.{begun, stays_within_terms}
use Rattle.entailment.proofs.Soundness.{embedded-entailed}
use Rattle.entailment.proofs.Completeness.{entailed-embedded}

-- the theorem over the terms ts
Over : List Term → Type 0
Over ts =
    (r : Regime) (kept : List Triple) (goal : List GoalRow) (set : Graph)
    → Begins ts → AllByRecursion (OfTerms ts) kept → AllByRecursion (RowNamed ts) goal → Closure r ts kept set
    → (Embeds ts set goal → Entails r ts kept goal) × (Entails r ts kept goal → Embeds ts set goal)

over : (more : List Term) → Over (thirty ++ more)
unfolding Over
over more r kept goal set b of_terms named c = (
  embedded-entailed r more kept goal set named c.least,
  entailed-embedded r more kept goal set c.closed (λ t h. stays_within_terms r (thirty ++ more) kept b of_terms t (c.least t h)),
)

pub entailment : Entailment
unfolding Over
entailment r ts kept goal set b of_terms named c = subst Over (begun ts b) (over (drop 30 ts)) r kept goal set b of_terms named c
