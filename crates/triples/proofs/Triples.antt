-- Triples, their codes, and the test whether two are the same.
use Rattle.std.proofs.Common.{◌≡◌, ℕ, ◌<◌, ◌≤◌, true, false, eqb, ◌⊎◌, sym, refl, ap, ◌∙◌, inl, inr, ⊎_elim, arith}
use Rattle.std.proofs.lemmas.Bool.{and_parts, and_from, eq-eqb, eqb-true, cases_Bool, both_ways}
use Rattle.triples.specs.declared.triple.Triple.{Triple}
use Rattle.triples.specs.Codes.{width, codes, code_of, triple_of, Inside}
use Rattle.triples.specs.Sets.{same}

-- two triples with the same numbers
pub triple_eq : (t u : Triple) → t.subject ≡ u.subject → t.predicate ≡ u.predicate → t.object ≡ u.object → t ≡ u
triple_eq t u s p o = λ i. record { subject = s i; predicate = p i; object = o i }

pub triple_of_code : (t : Triple) → Inside width t → triple_of (code_of t) ≡ t
triple_of_code t h = triple_eq (triple_of (code_of t)) t (omega arith) (omega arith) (omega arith)

pub code_of-triple : (k : ℕ) → code_of (triple_of k) ≡ k
code_of-triple k = omega arith

pub code_below : (t : Triple) → Inside width t → code_of t < codes
code_below t h = omega arith

pub inside-more : (m n : ℕ) (t : Triple) → m ≤ n → Inside m t → Inside n t
inside-more m n t l h = (omega arith, omega arith, omega arith)

-- different triples have different codes
pub code_only : (t u : Triple) → Inside width t → Inside width u → code_of t ≡ code_of u → t ≡ u
code_only t u ht hu e = triple_eq t u (omega arith) (omega arith) (omega arith)

pub same_refl : (t : Triple) → same t t ≡ true
same_refl t =
    let s = eq-eqb t.subject t.subject refl in
    let p = eq-eqb t.predicate t.predicate refl in
    let o = eq-eqb t.object t.object refl in
    and_from _ _ s (and_from _ _ p o)

pub same_true : (t u : Triple) → same t u ≡ true → t ≡ u
same_true t u h =
    let a = and_parts (eqb t.subject u.subject) _ h in
    let b = and_parts (eqb t.predicate u.predicate) _ a.1 in
    triple_eq t u (eqb-true _ _ a.0) (eqb-true _ _ b.0) (eqb-true _ _ b.1)

pub eq_same : (t u : Triple) → t ≡ u → same t u ≡ true
eq_same t u e = ap (same t) (sym e) ∙ same_refl t

pub ne_same : (t u : Triple) → (t ≡ u → ⊥) → same t u ≡ false
ne_same t u ne = ⊎_elim (λ h. absurd (ne (same_true t u h))) (λ h. h) (cases_Bool (same t u))

pub cases_triple : (t u : Triple) → (t ≡ u) ⊎ (t ≡ u → ⊥)
cases_triple t u =
    ⊎_elim (λ h. inl (same_true t u h)) (λ h. inr (λ e. both_ways (same t u) h (eq_same t u e))) (cases_Bool (same t u))
