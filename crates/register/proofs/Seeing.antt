-- A term that is seen is the term of the number.
use Rattle.std.proofs.Common.{◌≡◌, ℕ, zero, suc, List, [], ◌∷◌, refl, Option}
use Rattle.std.specs.Prelude.{slice_get, slice_index_or, unwrap_or}
use Rattle.entailment.specs.Terms.{Term, blank}

get_is : (xs : List Term) (n : ℕ) → slice_index_or xs n blank ≡ unwrap_or (slice_get xs n) blank
get_is [] n = refl
get_is (x ∷ xs) zero = refl
get_is (x ∷ xs) (suc n) = get_is xs n

pub seen : (xs : List Term) (n : ℕ) (o : Option Term) → o ≡ slice_get xs n → slice_index_or xs n blank ≡ unwrap_or o blank
seen xs n o e = rw e (get_is xs n)
