-- Which names a list of terms has after a term more, and after a cut.
use Rattle.std.proofs.Common.{◌≡◌, ℕ, zero, suc, ◌<◌, ◌⊎◌, List, [], ◌∷◌, ◌++◌, length, slice_get, None, take, refl, ap, sym, ◌∙◌, inl, inr, ⊎_elim, arith}
use Rattle.entailment.specs.Terms.{Term, iri, literal, blank}
use Rattle.names.specs.Terms.{HasSpelling, IsNumberOf, IsUnknown, HasNoNameTwice}

-- a term has one spelling
pub one_spelling : (b c : List ℕ) (t : Term) → HasSpelling b t → HasSpelling c t → b ≡ c
one_spelling b c (iri d) e f = sym e ∙ f
one_spelling b c (literal d) e f = sym e ∙ f
one_spelling b c blank e f = absurd e

-- a name has a number of the list
pub IsNumberOf-within : (b : List ℕ) (ts : List Term) (n : ℕ) → IsNumberOf b ts n → n < length ts
IsNumberOf-within b [] n h = absurd h
IsNumberOf-within b (t ∷ ts) zero h = omega arith
IsNumberOf-within b (t ∷ ts) (suc n) h = omega (arith, IsNumberOf-within b ts n h)

IsNumberOf-push : (b : List ℕ) (ts : List Term) (t : Term) (n : ℕ) → IsNumberOf b (ts ++ t ∷ []) n → IsNumberOf b ts n ⊎ ((n ≡ length ts) × HasSpelling b t)
IsNumberOf-push b [] t zero h = inr (refl, h)
IsNumberOf-push b [] t (suc n) h = inl h
IsNumberOf-push b (u ∷ ts) t zero h = inl h
IsNumberOf-push b (u ∷ ts) t (suc n) h = ⊎_elim inl (λ p. inr (ap suc p.0, p.1)) (IsNumberOf-push b ts t n h)

IsNumberOf-take : (b : List ℕ) (k : ℕ) (ts : List Term) (n : ℕ) → IsNumberOf b (take k ts) n → IsNumberOf b ts n
IsNumberOf-take b zero ts n h = absurd h
IsNumberOf-take b (suc k) [] n h = h
IsNumberOf-take b (suc k) (t ∷ ts) zero h = h
IsNumberOf-take b (suc k) (t ∷ ts) (suc n) h = IsNumberOf-take b k ts n h

pub HasNoNameTwice-push : (ts : List Term) (t : Term) → HasNoNameTwice ts → ((b : List ℕ) → HasSpelling b t → IsUnknown b ts) → HasNoNameTwice (ts ++ t ∷ [])
HasNoNameTwice-push ts t once new b m n h k =
    ⊎_elim
    (λ p. ⊎_elim (λ q. once b m n p q) (λ q. absurd (new b q.1 m p)) (IsNumberOf-push b ts t n k))
    (λ p. ⊎_elim (λ q. absurd (new b p.1 n q)) (λ q. p.0 ∙ sym q.0) (IsNumberOf-push b ts t n k))
    (IsNumberOf-push b ts t m h)

pub HasNoNameTwice-take : (k : ℕ) (ts : List Term) → HasNoNameTwice ts → HasNoNameTwice (take k ts)
HasNoNameTwice-take k ts once b m n h l = once b m n (IsNumberOf-take b k ts m h) (IsNumberOf-take b k ts n l)

-- where there is no term there is no name
pub none-at : (b : List ℕ) (ts : List Term) (n : ℕ) → slice_get ts n ≡ None → IsNumberOf b ts n → ⊥
none-at b [] n e h = h
none-at b (t ∷ ts) zero e h = cc
none-at b (t ∷ ts) (suc n) e h = none-at b ts n e h
