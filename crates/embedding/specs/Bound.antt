-- An inner device: goal blanks with the terms to which they are bound, the last first, and what becomes of them when a row
-- is to be a triple.
use Rattle.std.specs.Prelude.{◌≡◌, ℕ, ◌<◌, ◌≤◌, Bool, true, false, cond, ◌==◌, eqb, List, [], ◌∷◌, ◌++◌, ◌-◌, length, drop, map, Some, None, Option, slice_index_or}
use Rattle.std.specs.List.{AllByRecursion, IsDistinct}
use Rattle.triples.specs.declared.triple.Triple.{Triple}
use Rattle.triples.specs.declared.question.Pattern.{Pattern}
use Rattle.triples.specs.Codes.{width, code_of, Inside}
use Rattle.entailment.specs.declared.goal.Position.{Position}
use Rattle.entailment.specs.declared.goal.Position.TheVariants.{Name, Blank}
use Rattle.entailment.specs.declared.goal.GoalRow.{GoalRow}
use Rattle.entailment.specs.Entailment.{put}

-- goal blanks with their terms
abbrev pub Bound : Type 0
Bound = List (ℕ × ℕ)

-- the term to which the goal blank k is bound
abbrev pub lookup : Bound → ℕ → Option ℕ
lookup [] k = None
lookup (p ∷ bs) k = cond (p.0 == k) (Some p.1) (lookup bs k)

-- the lowest n
abbrev pub lowest : ℕ → Bound → Bound
lowest n bs = drop (length bs - n) bs

-- the goal blanks on a stack with their terms
abbrev pub bound : List ℕ → List ℕ → Bound
bound terms ks = map (λ k. (k, slice_index_or terms k 0)) ks

-- there is room for each goal blank, and none is on the stack twice
pub record IsSound (slots ks : List ℕ) : Type 0 where
  pub room : 8 ≤ length slots
  pub small : AllByRecursion (λ k. k < 8) ks
  pub distinct : IsDistinct eqb ks

-- the term that a position has, if it has one
abbrev pub asked : Bound → Position → Option ℕ
asked bs (Name n) = Some n
asked bs (Blank k) = lookup bs k

abbrev pub pattern : Bound → GoalRow → Pattern
pattern bs r = record { subject = asked bs r.subject; predicate = asked bs r.predicate; object = asked bs r.object }

abbrev pub Small : Position → Type 0
Small (Name n) = Unit {0}
Small (Blank k) = k < 8

abbrev pub SmallRow : GoalRow → Type 0
SmallRow r = Small r.subject × Small r.predicate × Small r.object

-- a goal blank that is bound to v, or not bound
abbrev pub bind : ℕ → ℕ → Bound → Option ℕ → Option Bound
bind k v bs None = Some ((k, v) ∷ bs)
bind k v bs (Some w) = cond (w == v) (Some bs) None

-- the bindings under which the position stands for v; none where it cannot
abbrev pub meet : Position → ℕ → Bound → Option Bound
meet (Name n) v bs = cond (n == v) (Some bs) None
meet (Blank k) v bs = bind k v bs (lookup bs k)

abbrev pub and_then : (Bound → Option Bound) → Option Bound → Option Bound
and_then f None = None
and_then f (Some bs) = f bs

-- the bindings under which the row is the triple; none where it cannot be
abbrev pub unify : GoalRow → Triple → Bound → Option Bound
unify r t bs = and_then (λ cs. and_then (meet r.object t.object) (meet r.predicate t.predicate cs)) (meet r.subject t.subject bs)

-- what is wanted of bs has come to cs, or it cannot be, and bs is as it was
abbrev pub Gives : Option Bound → Bound → Bound → Bool → Type 0
Gives o bs cs true = o ≡ Some cs
Gives o bs cs false = (o ≡ None) × (cs ≡ bs)

-- cs has bs and more
abbrev pub Extends : Bound → Bound → Type 0
Extends bs cs = (ps : Bound) × (cs ≡ ps ++ bs)

-- the same, but bs may have become more where it cannot be
abbrev pub Grows : Option Bound → Bound → Bound → Bool → Type 0
Grows o bs cs true = o ≡ Some cs
Grows o bs cs false = (o ≡ None) × Extends bs cs

-- no map makes the row a triple that is later than t, but not than u
abbrev pub NoneBetween : GoalRow → Triple → Triple → Type 0
NoneBetween r t u = (m : ℕ → ℕ) → Inside width (put m r) → code_of t < code_of (put m r) → code_of u < code_of (put m r)
