-- How many rows of a goal are open, that is, not closed: binding more makes them fewer.
use Rattle.std.proofs.Common.{◌≡◌, ℕ, zero, suc, ◌+◌, ◌<◌, ◌≤◌, List, [], ◌∷◌, length, Some, None, Option, refl, ap, arith}
use Rattle.entailment.specs.declared.goal.Position.{Position}
use Rattle.entailment.specs.declared.goal.GoalRow.{GoalRow}
use Rattle.triples.specs.declared.triple.Triple.{Triple}
use Rattle.embedding.specs.Bound.{Bound, lookup, asked}
use Rattle.embedding.specs.Searching.{row_at, one_free, unbound, IsClosed}
use Rattle.embedding.proofs.Unifying.{kept_asked, Closed}

-- 1 for a row that is open
abbrev one_open : ℕ → ℕ
one_open zero = 0
one_open (suc n) = 1

abbrev pub open_rows : Bound → List GoalRow → ℕ
open_rows bs [] = 0
open_rows bs (r ∷ rs) = one_open (unbound bs r) + open_rows bs rs

one_open_le : (n : ℕ) → one_open n ≤ 1
one_open_le zero = omega arith
one_open_le (suc n) = omega arith

one_open_more : (m n : ℕ) → m ≤ n → one_open m ≤ one_open n
one_open_more zero n le = omega arith
one_open_more (suc m) zero le = absurd (omega arith)
one_open_more (suc m) (suc n) le = omega arith

one_open_some : (n : ℕ) → (n ≡ 0 → ⊥) → one_open n ≡ 1
one_open_some zero ne = absurd (ne refl)
one_open_some (suc n) ne = refl

pub open_rows_le : (bs : Bound) (goal : List GoalRow) → open_rows bs goal ≤ length goal
open_rows_le bs [] = omega arith
open_rows_le bs (r ∷ rs) = omega (arith, one_open_le (unbound bs r), open_rows_le bs rs)

-- a row that is open counts
pub some_open : (bs : Bound) (goal : List GoalRow) (i : ℕ) → i < length goal → (IsClosed bs (row_at goal i) → ⊥) → 0 < open_rows bs goal
some_open bs [] i low opened = absurd (omega arith)
some_open bs (r ∷ rs) zero low opened = omega (arith, one_open_some (unbound bs r) opened)
some_open bs (r ∷ rs) (suc i) low opened = omega (arith, some_open bs rs i (omega arith) opened)

one_free_le : (o : Option ℕ) → one_free o ≤ 1
one_free_le None = omega arith
one_free_le (Some w) = omega arith

one_free_fewer : (o p : Option ℕ) → ((w : ℕ) → o ≡ Some w → p ≡ Some w) → one_free p ≤ one_free o
one_free_fewer None p h = one_free_le p
one_free_fewer (Some w) p h = omega (arith, ap one_free (h w refl))

module _ (bs cs : Bound) (keeps : (k w : ℕ) → lookup bs k ≡ Some w → lookup cs k ≡ Some w) where
  position_fewer : (x : Position) → one_free (asked cs x) ≤ one_free (asked bs x)
  position_fewer x = one_free_fewer (asked bs x) (asked cs x) (kept_asked bs cs keeps x)

  unbound_fewer : (r : GoalRow) → unbound cs r ≤ unbound bs r
  unbound_fewer r = omega (arith, position_fewer r.subject, position_fewer r.predicate, position_fewer r.object)

  pub open_rows_fewer : (goal : List GoalRow) → open_rows cs goal ≤ open_rows bs goal
  open_rows_fewer [] = omega arith
  open_rows_fewer (r ∷ rs) = omega (arith, one_open_more (unbound cs r) (unbound bs r) (unbound_fewer r), open_rows_fewer rs)

  -- a row that was open and is closed
  pub open_rows_less : (goal : List GoalRow) (i : ℕ) → i < length goal → (IsClosed bs (row_at goal i) → ⊥) → IsClosed cs (row_at goal i) → open_rows cs goal < open_rows bs goal
  open_rows_less [] i low opened closed = absurd (omega arith)
  open_rows_less (r ∷ rs) zero low opened closed =
      omega (arith, one_open_some (unbound bs r) opened, ap one_open closed, open_rows_fewer rs)
  open_rows_less (r ∷ rs) (suc i) low opened closed =
      omega (arith, one_open_more (unbound cs r) (unbound bs r) (unbound_fewer r), open_rows_less rs i (omega arith) opened closed)

-- a row whose every position has a term is closed
pub is_closed : (bs : Bound) (r : GoalRow) (t : Triple) → Closed bs r t → IsClosed bs r
is_closed bs r t c = omega (arith, ap one_free c.subject, ap one_free c.predicate, ap one_free c.object)
