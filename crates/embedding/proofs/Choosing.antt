-- A choice more: a row is made its candidate.
use Rattle.std.proofs.Common.{◌≡◌, ℕ, ◌<◌, ◌≤◌, true, List, ◌∷◌, length, Some, refl, sym, ap, ◌∙◌, subst, inl, inr, ⊎_elim, arith}
use Rattle.std.proofs.ByRecursion.{All-get_or}
use Rattle.triples.specs.declared.triple.Triple.{Triple}
use Rattle.triples.specs.Codes.{width, Inside}
use Rattle.triples.specs.Sets.{Graph}
use Rattle.entailment.specs.declared.goal.Position.TheVariants.{Name}
use Rattle.entailment.specs.declared.goal.GoalRow.{GoalRow}
use Rattle.embedding.specs.declared.search.Choice.{Choice}
use Rattle.embedding.specs.Embeddings.{InRow, Absent}
use Rattle.embedding.specs.Bound.{Bound, unify, lowest}
use Rattle.embedding.specs.Searching.{Agrees, row_at, Hopeful}
use Rattle.embedding.proofs.Unifying.{Of, Unified, makes, unified, cut_back}
use Rattle.embedding.proofs.Openness.{open_rows, open_rows_less, is_closed}
use Rattle.embedding.proofs.Standing.{Stands, Path, Beyond, Ready, Going}
use Rattle.embedding.proofs.Turns.{current_below, this_or_later}

module _ (n : ℕ) (set : Graph) (goal : List GoalRow) (lawful : (t : Triple) → set t ≡ true → Inside n t) (narrow : n ≤ width) where
  stands_in : (k i : ℕ) → i < length goal → InRow k (row_at goal i) → Absent k goal → ⊥
  stands_in k i low here absent = All-get_or (λ r. InRow k r → ⊥) goal i (record { subject = Name 0; predicate = Name 0; object = Name 0 }) low absent here

  -- what is bound anew stands in the row and is a term
  fresh : (i : ℕ) (t : Triple) → i < length goal → Inside n t → (k w : ℕ) → Of (row_at goal i) t k w → (w < n) × (Absent k goal → ⊥)
  fresh i t low inside k w of =
      ⊎_elim
      (λ o. ⊎_elim
      (λ s. (omega (arith, s.1, inside.0), stands_in k i low (inl s.0)))
      (λ p. (omega (arith, p.1, inside.1), stands_in k i low (inr (inl p.0))))
      o)
      (λ o. (omega (arith, o.1, inside.2), stands_in k i low (inr (inr o.0))))
      of

  module _ (bs : Bound) (cs : List Choice) (i : ℕ) (t : Triple) (g : Going n set goal bs cs i (Some t)) (es : Bound) (e : unify (row_at goal i) t bs ≡ Some es) where
    is : Unified (row_at goal i) t bs es
    is = unified (row_at goal i) t bs es e

    pub chosen_less : open_rows es goal < open_rows bs goal
    chosen_less = open_rows_less bs es is.meets.keeps goal i g.stands.within g.stands.opened (is_closed es (row_at goal i) t is.closed)

    pub chosen_cut : (j : ℕ) → j ≡ length bs → lowest j es ≡ bs
    chosen_cut j at = ap (λ (k : ℕ). lowest k es) at ∙ cut_back bs es is.meets.grown

    pub choose : (j : ℕ) → j ≡ length bs → Hopeful set goal es → Ready n set goal es ((record { row = i; triple = t; mark = j }) ∷ cs)
    choose j at hope =
        let back : bs ≡ lowest j es = sym (chosen_cut j at) in
        record {
          sourced = λ k w h. ⊎_elim (g.stands.sourced k w) (fresh i t g.stands.within (lawful t (g.current t refl)) k w) (is.meets.from k w h);
          hopeful = hope;
          depth = omega (arith, g.stands.depth, chosen_less);
          path = (
            current_below n set goal lawful narrow bs cs i t g,
            subst (λ (ds : Bound). Stands n set goal ds (length cs) i) back g.stands,
            subst (λ (ds : Bound). Path n set goal ds cs) back g.path,
          );
          ahead = λ m rows.
              let h = g.ahead m rows in (
                h.0,
                h.1,
                ⊎_elim
                    (λ d. ⊎_elim
                    (λ q. inl (is.meets.agrees h.0 d.0 (makes (row_at goal i) t h.0 q)))
                    (λ lt. inr (inl (subst (λ (ds : Bound). Agrees ds h.0) back d.0, lt)))
                    (this_or_later n set goal lawful narrow bs i t h.0 g.stands.within (g.current t refl) h.1 d.0 d.1))
                    (λ b. inr (inr (subst (λ (ds : Bound). Beyond n set goal ds cs h.0) back b)))
                    h.2,
              );
        }
