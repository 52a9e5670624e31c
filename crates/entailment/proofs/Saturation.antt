-- A list of triples that have a derivation, made longer one by one until its set is closed: that set is the closure.
use Rattle.std.proofs.Common.{◌≡◌, ℕ, zero, suc, ◌+◌, ◌*◌, ◌<◌, ◌≤◌, ◌⊎◌, not, ◌&&◌, T, List, [], ◌∷◌, length, sym, subst, inl, inr, ⊎_elim, arith}
use Rattle.std.specs.List.{ContainsAt as Has, AllByRecursion, list_all}
use Rattle.std.proofs.ByRecursion.{All-weaker, all-has}
use Rattle.std.proofs.Math.Dec.{T_not, not_T}
use Rattle.triples.specs.declared.triple.Triple.{Triple}
use Rattle.triples.specs.Sets.{among}
use Rattle.triples.proofs.Triples.{triple_eq}
use Rattle.entailment.specs.declared.regime.Regime.{Regime}
use Rattle.entailment.specs.declared.regime.Row.{Row}
use Rattle.entailment.specs.Terms.{Term, Begins}
use Rattle.entailment.specs.Rows.{Form, reading, premises, conclusion, rows, uses}
use Rattle.entailment.specs.Starts.{start}
use Rattle.entailment.specs.Closure.{Closed, Derives, different}
use Rattle.entailment.specs.Entailment.{OfTerms}
use Rattle.entailment.specs.Laws.{ClosureExists, DerivationsAreLeast}
use Rattle.entailment.proofs.Basics.{and_left, and_right, and_both, all-by_test}
use Rattle.entailment.proofs.Within.{stays_within_terms}
use Rattle.entailment.proofs.Counting.{one_more_differs}
use Rattle.entailment.proofs.Among.{among-all}
use Rattle.entailment.proofs.EachRow.{each_row}
use Rattle.entailment.proofs.Deriving.{derived-in_closure}
use Rattle.entailment.proofs.SaturationSearch.{decides, one_or_all, cut, assignment_or_none}
use Rattle.entailment.proofs.SaturationBound.{length-le_different}
use Rattle.entailment.proofs.SaturationRows.{holds, adds, cut-adds, at_most, at-at_most, test-by_all}

module _ (r : Regime) (ts : List Term) (kept : List Triple) (within : (t : Triple) → Derives r ts kept t → OfTerms ts t) where
  abbrev Derived : Triple → Type 0
  Derived t = Derives r ts kept t

  -- a triple that is not in the list and has a derivation
  New : List Triple → Type 0
  New l = (t : Triple) × (T (among l t) → ⊥) × Derived t

  -- a derived triple is of terms, so an assignment of terms gives it
  reading-at_most : (σ : ℕ → ℕ) (f : Form) → Derived (reading σ f) → reading (at_most (length ts) σ) f ≡ reading σ f
  reading-at_most σ f d =
      let w = within (reading σ f) d in
      triple_eq (reading (at_most (length ts) σ) f) (reading σ f) (at-at_most (length ts) σ f.subject w.0) (at-at_most (length ts) σ f.predicate w.1) (at-at_most (length ts) σ f.object w.2)

  module _ (l : List Triple) (derived : AllByRecursion Derived l) where
    held : (σ : ℕ → ℕ) (f : Form) → T (holds l σ f) → Derived (reading σ f)
    held σ f h = among-all Derived l derived (reading σ f) h

    concluded : (row : Row) → T (uses r row) → (σ : ℕ → ℕ) → AllByRecursion (λ f. T (holds l σ f)) (premises row) → Derived (reading σ (conclusion row))
    concluded row u σ h = Derives.by_row row u σ (λ f m. held σ f (all-has (λ g. T (holds l σ g)) (premises row) f h m))

    new_by_row : (row : Row) (σ : ℕ → ℕ) → T (adds r l row σ) → New l
    unfolding New
    new_by_row row σ h =
        let p = list_all (holds l σ) (premises row) in
        let n = not (holds l σ (conclusion row)) in
        let k = and_right (uses r row) (p && n) h in (
          reading σ (conclusion row),
          T_not (holds l σ (conclusion row)) (and_right p n k),
          concluded row (and_left (uses r row) (p && n) h) σ (all-by_test (λ f. T (holds l σ f)) (holds l σ) (λ f t. t) (premises row) (and_left p n k)),
        )

    adds_within : (row : Row) → T (uses r row) → (σ : ℕ → ℕ) → AllByRecursion (λ f. T (holds l σ f)) (premises row) → (T (holds l σ (conclusion row)) → ⊥) → T (adds r l row (at_most (length ts) σ))
    adds_within row u σ h new =
        let τ : ℕ → ℕ = at_most (length ts) σ in
        and_both (uses r row) _ u
        (and_both (list_all (holds l τ) (premises row)) _
        (test-by_all (holds l τ) (premises row)
        (All-weaker (λ f. T (holds l σ f)) (λ f. T (holds l τ f)) (λ f t. subst (λ t. T (among l t)) (sym (reading-at_most σ f (held σ f t))) t) (premises row) h))
        (not_T (holds l τ (conclusion row)) (λ t. new (subst (λ t. T (among l t)) (reading-at_most σ (conclusion row) (concluded row u σ h)) t))))

    -- the row adds nothing at an assignment of terms
    None : Row → Type 0
    None row = (σ : ℕ → ℕ) → ((j : ℕ) → σ j < suc (length ts)) → T (adds r l row (cut 7 σ)) → ⊥

    closed_by_none : AllByRecursion None rows → (row : Row) → T (uses r row) → (σ : ℕ → ℕ) → AllByRecursion (λ f. T (holds l σ f)) (premises row) → T (holds l σ (conclusion row))
    unfolding None
    closed_by_none none row u σ h =
        ⊎_elim (λ t. t)
        (λ new. absurd (all-has None rows row none (each_row row) (at_most (length ts) σ) (λ j. omega arith)
        (subst T (sym (cut-adds r l row (at_most (length ts) σ))) (adds_within row u σ h new))))
        (decides (holds l σ (conclusion row)))

  one_or_all_held : (l xs : List Triple) → ((t : Triple) → Has xs t → Derived t) → New l ⊎ AllByRecursion (λ t. T (among l t)) xs
  unfolding New
  one_or_all_held l xs derived =
      ⊎_elim (λ w. inl (w.0, w.2, derived w.0 w.1)) inr
      (one_or_all (λ t. T (among l t) → ⊥) (λ t. T (among l t)) (λ t. ⊎_elim inr inl (decides (among l t))) xs)

  one_or_closed : (l : List Triple) → AllByRecursion Derived l → New l ⊎ Closed r ts kept (among l)
  unfolding New None
  one_or_closed l d =
      ⊎_elim inl
      (λ s. ⊎_elim inl
      (λ k. ⊎_elim (λ w. inl (new_by_row l d w.0 w.2.0 w.2.1))
      (λ none. inr (record { starts = λ t m. all-has (λ u. T (among l u)) (start r ts) t s m; keeps = λ t m. all-has (λ u. T (among l u)) kept t k m; rows = closed_by_none l d none }))
      (one_or_all (λ row. (σ : ℕ → ℕ) × T (adds r l row σ)) (None l d)
      (λ row. assignment_or_none (suc (length ts)) 7 (λ σ. T (adds r l row σ)) (λ σ. T (adds r l row σ) → ⊥) (λ σ. decides (adds r l row σ))) rows))
      (one_or_all_held l kept (λ t m. Derives.from_kept m)))
      (one_or_all_held l (start r ts) (λ t m. Derives.from_start m))

  Saturated : Type 0
  Saturated = (l : List Triple) × T (different l) × AllByRecursion Derived l × Closed r ts kept (among l)

  abbrev places : ℕ
  places = length ts * (length ts * length ts)

  few : (l : List Triple) → T (different l) → AllByRecursion Derived l → length l ≤ places
  few l d h = length-le_different (length ts) l d (All-weaker Derived (OfTerms ts) within l h)

  -- by induction on how many more triples there can be
  saturated_from : (more : ℕ) (l : List Triple) → T (different l) → AllByRecursion Derived l → places ≤ length l + more → Saturated
  unfolding New Saturated
  saturated_from zero l d h enough =
      ⊎_elim (λ w. absurd (let f : suc (length l) ≤ places = few (w.0 ∷ l) (one_more_differs w.0 l w.1 d) (w.2, h) in omega arith))
      (λ c. (l, d, h, c)) (one_or_closed l h)
  saturated_from (suc more) l d h enough =
      ⊎_elim (λ w. saturated_from more (w.0 ∷ l) (one_more_differs w.0 l w.1 d) (w.2, h) (omega arith))
      (λ c. (l, d, h, c)) (one_or_closed l h)

  saturated : Saturated
  saturated = saturated_from places [] tt tt (omega arith)

derived_within : (r : Regime) (ts : List Term) (kept : List Triple) → Begins ts → AllByRecursion (OfTerms ts) kept → (t : Triple) → Derives r ts kept t → OfTerms ts t
derived_within r ts kept b k t d = stays_within_terms r ts kept b k t (derived-in_closure d)

pub closure_exists : ClosureExists
unfolding Saturated
closure_exists r ts kept b k =
    let s = saturated r ts kept (derived_within r ts kept b k) in
    (s.0, s.1, record { closed = s.3; least = λ t m. derived-in_closure (among-all (Derives r ts kept) s.0 s.2 t m) })

pub derivations_are_least : DerivationsAreLeast
unfolding Saturated
derivations_are_least r ts kept b k t =
    let s = saturated r ts kept (derived_within r ts kept b k) in
    (derived-in_closure, λ i. among-all (Derives r ts kept) s.0 s.2 t (i (among s.0) s.3))
