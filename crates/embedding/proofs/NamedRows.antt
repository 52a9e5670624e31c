-- In a goal that may be, every name is a name of the book.
use Rattle.std.proofs.Common.{◌≡◌, ℕ, zero, suc, T, ◌⊎◌, List, [], ◌∷◌, slice_get, Some, ⊎_elim, inl, refl}
use Rattle.std.proofs.ByRecursion.{All-weaker}
use Rattle.entailment.specs.declared.goal.Position.{Position}
use Rattle.entailment.specs.declared.goal.Position.TheVariants.{Name, Blank as GoalBlank}
use Rattle.entailment.specs.Terms.{Term, iri, literal, blank, is_name}
use Rattle.entailment.specs.Entailment.{PositionNamed, RowNamed}
use Rattle.embedding.specs.declared.kind.Kind.{Kind}
use Rattle.embedding.specs.declared.kind.Kind.TheVariants.{Iri, Literal, Blank}
use Rattle.embedding.specs.Kinds.{kinds_of, SubjectAllowed, PredicateAllowed, ObjectAllowed, RowAllowed}
use Rattle.embedding.proofs.Meeting.{none_some}
use Rattle.embedding.specs.Laws.{AllowedAreNamed}

named_kind : (k : Kind) → (Some k ≡ Some Iri) ⊎ (Some k ≡ Some Literal) → (k ≡ Blank → ⊥)
named_kind Iri h e = cc
named_kind Literal h e = cc
named_kind Blank h e = ⊎_elim (λ d. cc) (λ d. cc) h

-- a number with the kind of a name is a name
is_named : (ts : List Term) (n : ℕ) → (slice_get (kinds_of ts) n ≡ Some Iri) ⊎ (slice_get (kinds_of ts) n ≡ Some Literal) → T (is_name ts n)
is_named [] n h = ⊎_elim (λ e. none_some Iri e) (λ e. none_some Literal e) h
is_named (iri b ∷ ts) zero h = tt
is_named (literal b ∷ ts) zero h = tt
is_named (blank ∷ ts) zero h = absurd (named_kind Blank h refl)
is_named (t ∷ ts) (suc n) h = is_named ts n h

subject_named : (ts : List Term) (x : Position) → SubjectAllowed (kinds_of ts) x → PositionNamed ts x
subject_named ts (Name n) h = is_named ts n (inl h)
subject_named ts (GoalBlank k) h = tt

predicate_named : (ts : List Term) (x : Position) → PredicateAllowed (kinds_of ts) x → PositionNamed ts x
predicate_named ts (Name n) h = is_named ts n (inl h)
predicate_named ts (GoalBlank k) h = tt

object_named : (ts : List Term) (x : Position) → ObjectAllowed (kinds_of ts) x → PositionNamed ts x
object_named ts (Name n) h = is_named ts n h
object_named ts (GoalBlank k) h = tt

pub allowed_are_named : AllowedAreNamed
allowed_are_named ts goal h =
    All-weaker (RowAllowed (kinds_of ts)) (RowNamed ts)
    (λ r a. (subject_named ts r.subject a.0, predicate_named ts r.predicate a.1, object_named ts r.object a.2)) goal h
