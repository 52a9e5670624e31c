-- The map that is written embeds the goal.
use Rattle.std.proofs.Common.{◌≡◌, ℕ, ◌<◌, ◌≤◌, List, length, get_or, take, Some, None, Option, unwrap_or, refl, ap, ◌∙◌, subst, ⊎_elim, arith}
use Rattle.std.specs.List.{AllByRecursion}
use Rattle.std.proofs.ByRecursion.{All-weaker}
use Rattle.std.proofs.lemmas.Bool.{cases_lt}
use Rattle.std.proofs.lemmas.List.{get_or-take, get_or_past, length-take-le}
use Rattle.triples.specs.Sets.{Graph}
use Rattle.entailment.specs.declared.goal.GoalRow.{GoalRow}
use Rattle.embedding.specs.Embeddings.{InRow, Absent}
use Rattle.embedding.specs.Deciding.{Found}
use Rattle.embedding.specs.Bound.{Bound, lookup, Small, SmallRow}
use Rattle.embedding.specs.Searching.{Agrees, Complete, Written}
use Rattle.embedding.proofs.Fitting.{complete}

not_past : (k : ℕ) → 8 ≤ k → (r : GoalRow) → SmallRow r → InRow k r → ⊥
not_past k past r small here =
    ⊎_elim
    (λ e. let low : k < 8 = subst Small e small.0 in omega arith)
    (⊎_elim
    (λ e. let low : k < 8 = subst Small e small.1 in omega arith)
    (λ e. let low : k < 8 = subst Small e small.2 in omega arith))
    here

-- only goal blanks 0 to 7 stand in the goal
past_absent : (k : ℕ) → 8 ≤ k → (goal : List GoalRow) → AllByRecursion SmallRow goal → Absent k goal
past_absent k past goal small = All-weaker SmallRow (λ r. InRow k r → ⊥) (not_past k past) goal small

module _ (n : ℕ) (set : Graph) (goal : List GoalRow) (bs : Bound) (small : AllByRecursion SmallRow goal) (done : Complete n set goal bs) (some : 0 < n) (was is : List ℕ) (room : 8 ≤ length was) (w : Written bs 8 was is) where
  abbrev map : ℕ → ℕ
  map k = get_or (take 8 is) k 0

  map_past : (k : ℕ) → 8 ≤ k → map k ≡ 0
  map_past k past = get_or_past (take 8 is) k 0 (omega (arith, length-take-le 8 is (omega (arith, w.length))))

  map_first : (k : ℕ) → k < 8 → map k ≡ unwrap_or (lookup bs k) 0
  map_first k low = get_or-take 8 is k 0 low ∙ w.first k low

  map_agrees : Agrees bs map
  map_agrees k v h =
      ⊎_elim
      (λ low. map_first k low ∙ ap (λ (o : Option ℕ). unwrap_or o 0) h)
      (λ past. absurd ((done.sourced k v h).1 (past_absent k past goal small)))
      (cases_lt k 8)

  term_below : (k : ℕ) (o : Option ℕ) → lookup bs k ≡ o → unwrap_or o 0 < n
  term_below k None e = some
  term_below k (Some v) e = (done.sourced k v e).0

  map_below : (k : ℕ) → map k < n
  map_below k =
      ⊎_elim
      (λ low. omega (arith, map_first k low, term_below k (lookup bs k) refl))
      (λ past. omega (arith, map_past k past))
      (cases_lt k 8)

  not_bound : (k : ℕ) → Absent k goal → (o : Option ℕ) → lookup bs k ≡ o → unwrap_or o 0 ≡ 0
  not_bound k absent None e = refl
  not_bound k absent (Some v) e = absurd ((done.sourced k v e).1 absent)

  pub found : Found n set goal was is
  found = record {
    embeds = record { terms = map_below; rows = complete bs map map_agrees set goal done.closed done.hopeful };
    absent = λ k low absent. w.first k low ∙ not_bound k absent (lookup bs k) refl;
    rest = w.rest;
  }
