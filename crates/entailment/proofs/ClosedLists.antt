-- A test, which antt computes, that a list of triples is closed under the rows of a regime, and what it gives.
use Rattle.std.proofs.Common.{ℕ, Bool, true, cond, T, List, ◌++◌, subst}
use Rattle.std.specs.List.{ContainsAt as Has, AllByRecursion, list_all, list_any}
use Rattle.std.proofs.ByRecursion.{All-weaker, has_append_left, has_append_right}
use Rattle.triples.specs.declared.triple.Triple.{Triple}
use Rattle.triples.specs.Sets.{among}
use Rattle.entailment.specs.declared.regime.Regime.{Regime}
use Rattle.entailment.specs.declared.regime.Row.{Row}
use Rattle.entailment.specs.Terms.{Term}
use Rattle.entailment.specs.Rows.{premises, conclusion, reading, rows, uses}
use Rattle.entailment.specs.Starts.{start}
use Rattle.entailment.specs.Closure.{Closed}
use Rattle.entailment.proofs.Basics.{cond_by_test}
use Rattle.entailment.proofs.EachRow.{each_row}
use Rattle.entailment.proofs.Among.{among-has, has-among}
use Rattle.entailment.proofs.Matching.{Known, none_known, is_triple, each_way, all_at, one_way, has_reading}

abbrev has_conclusion : List Triple → Row → Known → Bool
has_conclusion l row e = list_any (is_triple e (conclusion row)) l

abbrev is_closed_under : List Triple → Row → Bool
is_closed_under l row = each_way (has_conclusion l row) l (premises row) none_known

abbrev pub is_closed : Regime → List Triple → Bool
is_closed r l = list_all (λ row. cond (uses r row) (is_closed_under l row) true) rows

rows_closed : (r : Regime) (l : List Triple) → T (is_closed r l) → (row : Row) → T (uses r row) → (σ : ℕ → ℕ)
    → AllByRecursion (λ f. T (among l (reading σ f))) (premises row) → T (among l (reading σ (conclusion row)))
rows_closed r l h row u σ ps =
    let t = subst (λ b. T b) (cond_by_test (uses r row) (is_closed_under l row) true u) (all_at (λ x. cond (uses r x) (is_closed_under l x) true) rows row h (each_row row)) in
    let m = All-weaker (λ f. T (among l (reading σ f))) (λ f. Has l (reading σ f)) (λ f k. among-has l (reading σ f) k) (premises row) ps in
    let w = one_way σ (has_conclusion l row) l (premises row) none_known (λ k. tt) t m in
    has-among l (reading σ (conclusion row)) (has_reading σ w.0 w.1 (conclusion row) l w.2)

-- the kept triples, the start set and some more, where the test passes
pub closed_list : (r : Regime) (ts : List Term) (kept more : List Triple) → T (is_closed r (kept ++ (start r ts ++ more))) → Closed r ts kept (among (kept ++ (start r ts ++ more)))
closed_list r ts kept more h =
    let l : List Triple = kept ++ (start r ts ++ more) in
    record {
      starts = λ t m. has-among l t (has_append_right kept (start r ts ++ more) t (has_append_left (start r ts) more t m));
      keeps = λ t m. has-among l t (has_append_left kept (start r ts ++ more) t m);
      rows = rows_closed r l h;
    }
