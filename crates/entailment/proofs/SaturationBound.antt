-- Different triples of numbers below n are at most n * (n * n).
use Rattle.std.proofs.Common.{◌≡◌, ℕ, ◌+◌, ◌*◌, ◌<◌, ◌≤◌, false, eqb, T, List, [], ◌∷◌, map, length, sym, subst, eqb-true, ne_eqb}
use Rattle.std.specs.List.{AllByRecursion, IsDistinct, list_any}
use Rattle.std.specs.Bool.{passes}
use Rattle.std.proofs.ByRecursion.{All-map, All-weaker, all-has}
use Rattle.std.proofs.lemmas.List.{length-map}
use Rattle.std.proofs.lemmas.Map.Keys.{IsDistinct-cons}
use Rattle.std.proofs.lemmas.Map.Steps.{length-le_from_distinct_below}
use Rattle.std.proofs.lemmas.Nat.{mul-add-lt, same_from_place}
use Rattle.triples.specs.declared.triple.Triple.{Triple}
use Rattle.triples.specs.Codes.{Inside}
use Rattle.triples.specs.Sets.{among}
use Rattle.triples.proofs.Triples.{triple_eq}
use Rattle.triples.proofs.Graphs.{adding-at, adding_on}
use Rattle.entailment.specs.Closure.{different}
use Rattle.entailment.proofs.Basics.{has_by_test, all_both}
use Rattle.entailment.proofs.Counting.{passed, first_is_new, rest_differs}

among_itself : (l : List Triple) → AllByRecursion (λ t. T (among l t)) l
among_itself [] = tt
among_itself (t ∷ l) = (
  passes (among (t ∷ l) t) (adding-at (among l) t),
  All-weaker (λ u. T (among l u)) (λ u. T (among (t ∷ l) u)) (λ u m. passes (among (t ∷ l) u) (adding_on (among l) t u (passed (among l u) m))) l (among_itself l),
)

module _ (n : ℕ) where
  -- a triple's place among those of numbers below n
  place : Triple → ℕ
  place t = (t.subject * n + t.predicate) * n + t.object

  place-below : (t : Triple) → Inside n t → place t < n * (n * n)
  unfolding place
  place-below t h = mul-add-lt (t.subject * n + t.predicate) n t.object (n * n) (mul-add-lt t.subject n t.predicate n h.0 h.1) h.2

  place-only : (t u : Triple) → Inside n t → Inside n u → place t ≡ place u → t ≡ u
  unfolding place
  place-only t u h k e =
      let o = same_from_place (t.subject * n + t.predicate) t.object (u.subject * n + u.predicate) u.object n h.2 k.2 e in
      let p = same_from_place t.subject t.predicate u.subject u.predicate n h.1 k.1 o.0 in
      triple_eq t u p.0 p.1 o.1

  places-distinct : (l : List Triple) → T (different l) → AllByRecursion (Inside n) l → IsDistinct eqb (map place l)
  unfolding IsDistinct
  places-distinct [] d h = tt
  places-distinct (t ∷ l) d h =
      IsDistinct-cons eqb (place t) (map place l)
      (All-map (λ k. eqb (place t) k ≡ false) place l
      (all_both (Inside n) (λ u. T (among l u)) (λ u. eqb (place t) (place u) ≡ false)
      (λ u i m. ne_eqb (place t) (place u) (λ e. first_is_new t l d (subst (λ v. T (among l v)) (sym (place-only t u h.0 i e)) m)))
      l h.1 (among_itself l)))
      (places-distinct l (rest_differs t l d) h.1)

  pub length-le_different : (l : List Triple) → T (different l) → AllByRecursion (Inside n) l → length l ≤ n * (n * n)
  length-le_different l d h =
      let below = All-map (λ k. k < n * (n * n)) place l (All-weaker (Inside n) (λ t. place t < n * (n * n)) place-below l h) in
      rw (← length-map l place)
      (length-le_from_distinct_below (map place l) (n * (n * n)) (places-distinct l d h)
      (λ q e. all-has (λ k. k < n * (n * n)) (map place l) q below (has_by_test (eqb q) q (λ x t. sym (eqb-true q x (passed (eqb q x) t))) (map place l) (passes (list_any (eqb q) (map place l)) e))))
