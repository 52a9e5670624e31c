-- What holds of each element of a list, by its number.
use Rattle.std.proofs.Common.{ℕ, zero, suc, ◌<◌, List, [], ◌∷◌, ◌++◌, length, get_or, arith, suc-le-suc, zero-le}
use Rattle.std.specs.List.{AllByRecursion}

module _ {X : Type 0} (P : X → Type 0) where
  pub all_at : (xs : List X) (k : ℕ) (d : X) → k < length xs → AllByRecursion P xs → P (get_or xs k d)
  all_at [] k d l h = absurd (omega arith)
  all_at (x ∷ xs) zero d l h = h.0
  all_at (x ∷ xs) (suc k) d l h = all_at xs k d (omega arith) h.1

  pub all_by_number : (xs : List X) → ((k : ℕ) (d : X) → k < length xs → P (get_or xs k d)) → AllByRecursion P xs
  all_by_number [] h = tt
  all_by_number (x ∷ xs) h = (h 0 x (suc-le-suc zero-le), all_by_number xs (λ k d l. h (suc k) d (suc-le-suc l)))

  pub all_front : (xs ys : List X) → AllByRecursion P (xs ++ ys) → AllByRecursion P xs
  all_front [] ys h = tt
  all_front (x ∷ xs) ys h = (h.0, all_front xs ys h.1)

  pub all_rest : (xs ys : List X) → AllByRecursion P (xs ++ ys) → AllByRecursion P ys
  all_rest [] ys h = h
  all_rest (x ∷ xs) ys h = all_rest xs ys h.1
