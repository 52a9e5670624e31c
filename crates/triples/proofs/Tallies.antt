-- What a tally counts.
use Rattle.std.proofs.Common.{◌≡◌, ℕ, zero, suc, ◌+◌, ◌<◌, ◌≤◌, Bool, true, false, cond, sym, refl, ap, ◌∙◌, ap₂, ⊎_elim, arith}
use Rattle.std.proofs.lemmas.Bool.{cases_eq}
use Rattle.triples.specs.Sets.{tally}

pub tally_ext : (f g : ℕ → Bool) (n : ℕ) → ((k : ℕ) → k < n → f k ≡ g k) → tally f n ≡ tally g n
unfolding tally
tally_ext f g zero h = refl
tally_ext f g (suc n) h =
    ap₂ (λ b m. cond b 1 0 + m) (h n (omega arith)) (tally_ext f g n (λ k l. h k (omega arith)))

pub tally-none : (f : ℕ → Bool) (n : ℕ) → ((k : ℕ) → k < n → f k ≡ false) → tally f n ≡ 0
unfolding tally
tally-none f zero h = refl
tally-none f (suc n) h = rw (h n (omega arith)) (omega (arith, tally-none f n (λ k l. h k (omega arith))))

pub tally_le : (f : ℕ → Bool) (n : ℕ) → tally f n ≤ n
unfolding tally
tally_le f zero = omega arith
tally_le f (suc n) =
    let h : tally f n ≤ n = tally_le f n in
    elim (f n) as (λ b. cond b 1 0 + tally f n ≤ suc n) [ true ↦ omega arith | false ↦ omega arith ]

-- g passes c, which f does not, and else what f passes
pub tally-more : (f g : ℕ → Bool) (c n : ℕ) → c < n → f c ≡ false → g c ≡ true → ((k : ℕ) → k < n → (k ≡ c → ⊥) → g k ≡ f k) → tally g n ≡ tally f n + 1
unfolding tally
tally-more f g c zero low out here other = absurd (omega arith)
tally-more f g c (suc n) low out here other =
    ⊎_elim
    (λ e.
    let rest : tally g n ≡ tally f n = tally_ext g f n (λ k l. other k (omega arith) (λ d. omega arith)) in
    let is : g n ≡ true = ap g e ∙ here in
    let was : f n ≡ false = ap f e ∙ out in
    ap₂ (λ b m. cond b 1 0 + m) is rest ∙ (omega arith ∙ sym (ap (λ b. (cond b 1 0 + tally f n) + 1) was)))
    (λ ne.
    let rest : tally g n ≡ tally f n + 1 = tally-more f g c n (omega arith) out here (λ k l d. other k (omega arith) d) in
    ap₂ (λ b m. cond b 1 0 + m) (other n (omega arith) ne) rest ∙ omega arith)
    (cases_eq n c)

one_more : (b c : Bool) → cond b 1 0 ≤ cond c 1 0 + 1
one_more true true = omega arith
one_more true false = omega arith
one_more false true = omega arith
one_more false false = omega arith

-- g is as f but at c
pub tally_off : (f g : ℕ → Bool) (c n : ℕ) → ((k : ℕ) → (k ≡ c → ⊥) → g k ≡ f k) → tally g n ≤ tally f n + 1
unfolding tally
tally_off f g c zero other = omega arith
tally_off f g c (suc n) other =
    ⊎_elim
    (λ e.
    let rest : tally g n ≡ tally f n = tally_ext g f n (λ k l. other k (λ d. omega arith)) in
    omega (arith, one_more (g n) (f n)))
    (λ ne.
    let rest : tally g n ≤ tally f n + 1 = tally_off f g c n other in
    rw (other n ne) (omega arith))
    (cases_eq n c)
