-- The set of the triples of a list.
use Rattle.std.proofs.Common.{◌≡◌, Bool, true, false, ◌||◌, T, List, [], ◌∷◌, refl, sym, subst}
use Rattle.std.specs.List.{ContainsAt as Has, AllByRecursion}
use Rattle.std.specs.Bool.{passes}
use Rattle.std.proofs.ByRecursion.{all_has_itself}
use Rattle.std.proofs.lemmas.List.Recursion.{or_at}
use Rattle.triples.specs.declared.triple.Triple.{Triple}
use Rattle.triples.specs.Sets.{same, among}
use Rattle.triples.proofs.Triples.{same_true, eq_same}

-- what holds of each triple of a list holds of each triple in its set
pub among-all : (P : Triple → Type 0) (l : List Triple) → AllByRecursion P l → (t : Triple) → T (among l t) → P t
among-all P [] h t m = absurd m
among-all P (u ∷ l) h t m = go (same t u) (same_true t u) m (among-all P l h.1 t)
  where
    go : (b : Bool) → (b ≡ true → t ≡ u) → T (b || among l t) → (T (among l t) → P t) → P t
    go true e m later = subst P (sym (e refl)) h.0
    go false e m later = later m

pub among-has : (l : List Triple) (t : Triple) → T (among l t) → Has l t
among-has l t m = among-all (Has l) l (all_has_itself l) t m

pub has-among : (l : List Triple) (t : Triple) → Has l t → T (among l t)
has-among l t h = passes (among l t) (or_at (λ k. among k t) (same t) refl (λ u k. refl) l h.0 t h.1 (eq_same t _ (sym (h.2 t))))
