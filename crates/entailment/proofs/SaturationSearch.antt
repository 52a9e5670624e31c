-- A search over finitely many things: one of them has P, or each has Q.
use Rattle.std.proofs.Common.{◌≡◌, ℕ, zero, suc, ◌<◌, ◌⊎◌, Bool, true, false, T, List, [], ◌∷◌, subst, inl, inr, ⊎_elim, arith}
use Rattle.std.specs.List.{ContainsAt as Has, AllByRecursion}
use Rattle.std.proofs.lemmas.Bool.{cases_lt}
use Rattle.entailment.proofs.Basics.{has_first, has_later}

pub decides : (b : Bool) → T b ⊎ (T b → ⊥)
decides true = inl tt
decides false = inr (λ h. h)

pub one_or_all : {X : Type 0} (P Q : X → Type 0) → ((x : X) → P x ⊎ Q x) → (xs : List X) → ((x : X) × Has xs x × P x) ⊎ AllByRecursion Q xs
one_or_all P Q f [] = inr tt
one_or_all P Q f (x ∷ xs) =
    ⊎_elim (λ p. inl (x, has_first x xs, p)) (λ q. ⊎_elim (λ w. inl (w.0, has_later x w.0 xs w.1, w.2)) (λ a. inr (q, a)) (one_or_all P Q f xs)) (f x)

-- over the numbers below n
below : (P Q : ℕ → Type 0) → ((i : ℕ) → P i ⊎ Q i) → (n : ℕ) → ((i : ℕ) × P i) ⊎ ((i : ℕ) → i < n → Q i)
below P Q f zero = inr (λ i l. absurd (omega arith))
below P Q f (suc n) =
    ⊎_elim (λ p. inl (n, p))
    (λ q. ⊎_elim inl (λ a. inr (λ i l. ⊎_elim (a i) (λ k. let e : n ≡ i = omega arith in subst Q e q) (cases_lt i n))) (below P Q f n))
    (f n)

-- an assignment with one letter more in front
abbrev pub before : ℕ → (ℕ → ℕ) → ℕ → ℕ
before x σ zero = x
before x σ (suc j) = σ j

-- an assignment at its first k letters, and 0 at the others
abbrev pub cut : ℕ → (ℕ → ℕ) → ℕ → ℕ
cut zero σ = λ j. 0
cut (suc k) σ = before (σ 0) (cut k (λ j. σ (suc j)))

-- over the assignments of k letters to numbers below n
pub assignment_or_none : (n k : ℕ) (P Q : (ℕ → ℕ) → Type 0) → ((σ : ℕ → ℕ) → P σ ⊎ Q σ) → ((σ : ℕ → ℕ) × P σ) ⊎ ((σ : ℕ → ℕ) → ((j : ℕ) → σ j < n) → Q (cut k σ))
assignment_or_none n zero P Q f = ⊎_elim (λ p. inl (λ j. 0, p)) (λ q. inr (λ σ h. q)) (f (λ j. 0))
assignment_or_none n (suc k) P Q f =
    ⊎_elim (λ w. inl (before w.0 w.1.0, w.1.1)) (λ a. inr (λ σ h. a (σ 0) (h 0) (λ j. σ (suc j)) (λ j. h (suc j))))
    (below (λ x. (σ : ℕ → ℕ) × P (before x σ)) (λ x. (σ : ℕ → ℕ) → ((j : ℕ) → σ j < n) → Q (before x (cut k σ)))
    (λ x. assignment_or_none n k (λ σ. P (before x σ)) (λ σ. Q (before x σ)) (λ σ. f (before x σ))) n)
