-- Facts on tests, and on what holds of the elements of a list.
use Rattle.std.proofs.Common.{◌≡◌, suc, Bool, true, false, cond, ◌&&◌, ◌||◌, T, List, [], ◌∷◌, map, refl, subst, suc-le-suc, zero-le}
use Rattle.std.specs.List.{ContainsAt as Has, AllByRecursion, list_all, list_any}
use Rattle.std.proofs.ByRecursion.{all-has, all_has_itself}

pub and_left : (a b : Bool) → T (a && b) → T a
and_left true b t = tt
and_left false b t = t

pub and_right : (a b : Bool) → T (a && b) → T b
and_right true b t = t
and_right false b t = absurd t

pub and_both : (a b : Bool) → T a → T b → T (a && b)
and_both true b s t = t
and_both false b s t = s

pub cond_by_test : {A : Type 0} (b : Bool) (x y : A) → T b → cond b x y ≡ x
cond_by_test true x y t = refl
cond_by_test false x y t = absurd t

pub all-by_test : {X : Type 0} (P : X → Type 0) (f : X → Bool) → ((x : X) → T (f x) → P x) → (xs : List X) → T (list_all f xs) → AllByRecursion P xs
all-by_test P f h [] t = tt
all-by_test P f h (x ∷ xs) t = (h x (and_left (f x) (list_all f xs) t), all-by_test P f h xs (and_right (f x) (list_all f xs) t))

pub has_first : {X : Type 0} (x : X) (xs : List X) → Has (x ∷ xs) x
has_first x xs = (0, suc-le-suc zero-le, λ d. refl)

pub has_later : {X : Type 0} (x y : X) (xs : List X) → Has xs y → Has (x ∷ xs) y
has_later x y xs h = (suc h.0, suc-le-suc h.1, λ d. h.2 d)

pub all_unmap : {X Y : Type 0} (f : X → Y) (P : Y → Type 0) (xs : List X) → AllByRecursion P (map f xs) → AllByRecursion (λ x. P (f x)) xs
all_unmap f P [] h = tt
all_unmap f P (x ∷ xs) h = (h.0, all_unmap f P xs h.1)

pub has_map : {X Y : Type 0} (f : X → Y) (xs : List X) (x : X) → Has xs x → Has (map f xs) (f x)
has_map f xs x h = all-has (λ z. Has (map f xs) (f z)) xs x (all_unmap f (λ y. Has (map f xs) y) xs (all_has_itself (map f xs))) h

-- a test of equality finds an element
pub has_by_test : {X : Type 0} (f : X → Bool) (y : X) → ((x : X) → T (f x) → x ≡ y) → (xs : List X) → T (list_any f xs) → Has xs y
has_by_test f y h [] t = absurd t
has_by_test f y h (x ∷ xs) t = go (f x) (h x) t (has_by_test f y h xs)
  where
    go : (b : Bool) → (T b → x ≡ y) → T (b || list_any f xs) → (T (list_any f xs) → Has xs y) → Has (x ∷ xs) y
    go true e u below = subst (λ z. Has (x ∷ xs) z) (e tt) (has_first x xs)
    go false e u below = has_later x y xs (below u)

pub all-premises : {X : Type 0} (P : X → Type 0) (xs : List X) → ((x : X) → Has xs x → P x) → AllByRecursion P xs
all-premises P [] h = tt
all-premises P (x ∷ xs) h = (h x (has_first x xs), all-premises P xs (λ y k. h y (has_later x y xs k)))

pub all_both : {X : Type 0} (P Q R : X → Type 0) → ((x : X) → P x → Q x → R x) → (xs : List X) → AllByRecursion P xs → AllByRecursion Q xs → AllByRecursion R xs
all_both P Q R f [] p q = tt
all_both P Q R f (x ∷ xs) p q = (f x p.0 q.0, all_both P Q R f xs p.1 q.1)
