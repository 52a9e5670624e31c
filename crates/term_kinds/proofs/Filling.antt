-- A slice that holds the kinds of the terms from a number on, as far as a loop has come.
use Rattle.std.proofs.Common.{◌≡◌, ℕ, ◌+◌, ◌-◌, ◌<◌, ◌≤◌, List, [], ◌∷◌, ◌++◌, length, get_or, slice_get, take, drop, set, map, Some, sym, ap, ◌∙◌, arith, length-drop}
use Rattle.std.proofs.lemmas.List.{take_more_set, map_more, get_or-drop, drop_at}
use Rattle.std.proofs.lemmas.Option.{get_or_from_slice_get}
use Rattle.entailment.specs.Terms.{Term, blank, thirty}
use Rattle.names.specs.Terms.{all_terms}
use Rattle.names.proofs.Beginning.{length-thirty}

module _ {K : Type 0} (f : Term → K) (ts : List Term) (first n : ℕ) (kinds : List K) where
  pub fill_more : (x : K) (t : Term) → first ≤ n → n < length ts → length ts ≤ first + length kinds → Some t ≡ slice_get ts n → x ≡ f t → take (n - first) kinds ≡ map f (take (n - first) (drop first ts)) → take (n + 1 - first) (set kinds (n - first) x) ≡ map f (take (n + 1 - first) (drop first ts))
  fill_more x t low high room is kind so_far =
      let p : ℕ = n - first in
      let e : n + 1 - first ≡ p + 1 = omega arith in
      let at : get_or (drop first ts) p blank ≡ t =
      get_or-drop first ts p blank
      ∙ ap (λ (k : ℕ). get_or ts k blank) (let q : first + p ≡ n = omega arith in q)
      ∙ get_or_from_slice_get ts n t blank (sym is) in
      ap (λ (k : ℕ). take k (set kinds p x)) e
      ∙ take_more_set kinds p x (omega arith)
      ∙ ap (λ xs. xs ++ x ∷ []) so_far
      ∙ ap (λ y. map f (take p (drop first ts)) ++ y ∷ []) (kind ∙ ap f (sym at))
      ∙ sym (map_more f (drop first ts) p blank (omega (arith, length-drop first ts)))
      ∙ ap (λ (k : ℕ). map f (take k (drop first ts))) (sym e)

-- what comes after the thirty
pub after_thirty : (more : List Term) → drop 30 (all_terms more) ≡ more
after_thirty more = drop_at thirty more 30 length-thirty
