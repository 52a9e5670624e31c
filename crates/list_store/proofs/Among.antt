-- The set of a list's triples: a record more, the first records.
use Rattle.std.proofs.Common.{◌≡◌, ℕ, zero, suc, ◌+◌, ◌<◌, ◌≤◌, Bool, true, false, ◌||◌, List, [], ◌∷◌, ◌++◌, length, get_or, take, set, refl, ap, ◌∙◌, ⊎_elim, arith}
use Rattle.std.proofs.Math.Path.{fun_ext}
use Rattle.std.proofs.lemmas.Bool.{false≢true}
use Rattle.std.proofs.lemmas.List.{take_more, take_more_set}
use Rattle.triples.specs.declared.triple.Triple.{Triple}
use Rattle.triples.specs.Sets.{Graph, same, adding, among}
use Rattle.triples.proofs.Graphs.{adding-at, adding_on, adding_cases}

or_swap : (a b c : Bool) → (a || (b || c)) ≡ (b || (a || c))
or_swap true true c = refl
or_swap true false c = refl
or_swap false true c = refl
or_swap false false c = refl

among_push : (ts : List Triple) (t : Triple) → among (ts ++ (t ∷ [])) ≡ adding (among ts) t
among_push [] t = refl
among_push (x ∷ xs) t =
    ap (λ (f : Graph). adding f x) (among_push xs t) ∙ fun_ext (λ u. or_swap (same u x) (same u t) (among xs u))

-- a record read at i
pub among-more : (ts : List Triple) (i : ℕ) (d : Triple) → i < length ts → among (take (i + 1) ts) ≡ adding (among (take i ts)) (get_or ts i d)
among-more ts i d h = ap among (take_more ts i d h) ∙ among_push (take i ts) (get_or ts i d)

-- a record written at i
pub among-put : (ts : List Triple) (i : ℕ) (t : Triple) → i < length ts → among (take (i + 1) (set ts i t)) ≡ adding (among (take i ts)) t
among-put ts i t h = ap among (take_more_set ts i t h) ∙ among_push (take i ts) t

pub among-at : (ts : List Triple) (i : ℕ) (d : Triple) → i < length ts → among ts (get_or ts i d) ≡ true
among-at [] i d h = absurd (omega arith)
among-at (x ∷ xs) zero d h = adding-at (among xs) x
among-at (x ∷ xs) (suc i) d h = adding_on (among xs) x (get_or xs i d) (among-at xs i d (omega arith))

-- what is among the first n is among the first m
pub among_first : (ts : List Triple) (n m : ℕ) (t : Triple) → n ≤ m → among (take n ts) t ≡ true → among (take m ts) t ≡ true
among_first ts zero m t l h = absurd (false≢true h)
among_first ts (suc n) zero t l h = absurd (omega arith)
among_first [] (suc n) (suc m) t l h = absurd (false≢true h)
among_first (x ∷ xs) (suc n) (suc m) t l h =
    ⊎_elim
    (λ e. ap (adding (among (take m xs)) x) e ∙ adding-at (among (take m xs)) x)
    (λ i. adding_on (among (take m xs)) x t (among_first xs n m t (omega arith) i))
    (adding_cases (among (take n xs)) x t h)
