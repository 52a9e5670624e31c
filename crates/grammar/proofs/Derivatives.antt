-- Derivatives of regular expressions: what may follow a byte. Assumes nothing.
use Rattle.std.proofs.Common.{◌≡◌, ℕ, Bool, true, false, cond, ◌&&◌, ◌||◌, List, [], ◌∷◌, ◌++◌, refl, ap, ◌∙◌, inl, inr, ⊎_elim}
use Rattle.std.proofs.lemmas.Bool.{and_from, and_parts, or_cases, or_left, or_right, cond_both}
use Rattle.grammar.specs.Regular.{Range, inside, Expr, never, empty, one, ◌then◌, ◌or◌, many, Star, stop, more, Spells}
use Rattle.grammar.proofs.Joins.{seq, seq_is, alt, alt_is}

-- the empty string is spelled
abbrev pub nullable : Expr → Bool
nullable never = false
nullable empty = true
nullable (one rs) = false
nullable (a then b) = nullable a && nullable b
nullable (a or b) = nullable a || nullable b
nullable (many a) = true

-- what may follow the byte c
abbrev pub der : ℕ → Expr → Expr
der c never = never
der c empty = never
der c (one rs) = cond (inside rs c) empty never
der c (a then b) = cond (nullable a) (alt (seq (der c a) b) (der c b)) (seq (der c a) b)
der c (a or b) = alt (der c a) (der c b)
der c (many a) = seq (der c a) (many a)

abbrev pub ders : List ℕ → Expr → Expr
ders [] e = e
ders (c ∷ p) e = ders p (der c e)

pub nullable_out : (e : Expr) → nullable e ≡ true → Spells e []
nullable_out never h = cc
nullable_out empty h = refl
nullable_out (one rs) h = absurd (cc)
nullable_out (a then b) h =
    let p = and_parts (nullable a) (nullable b) h in
    ([], [], refl, nullable_out a p.0, nullable_out b p.1)
nullable_out (a or b) h = ⊎_elim (λ x. inl (nullable_out a x)) (λ x. inr (nullable_out b x)) (or_cases (nullable a) (nullable b) h)
nullable_out (many a) h = stop

pub nullable_in : (e : Expr) → Spells e [] → nullable e ≡ true
nullable_in never h = absurd h
nullable_in empty h = refl
nullable_in (one rs) (c, e, h) = absurd (cc)
nullable_in (a then b) ([], t, e, x, y) = and_from _ _ (nullable_in a x) (nullable_in b (rw e y))
nullable_in (a then b) (c ∷ s, t, e, x, y) = absurd (cc)
nullable_in (a or b) h = ⊎_elim (λ x. or_left _ _ (nullable_in a x)) (λ x. or_right (nullable a) _ (nullable_in b x)) h
nullable_in (many a) h = refl

-- a string that begins with c is one of e exactly when the rest is one of d
abbrev Follows : ℕ → Expr → Expr → Type 0
Follows c e d = (s : List ℕ) → (Spells d s → Spells e (c ∷ s)) × (Spells e (c ∷ s) → Spells d s)

one_is : (rs : List Range) (c : ℕ) → Follows c (one rs) (cond (inside rs c) empty never)
one_is rs c u =
    cond_both (inside rs c) empty never (λ d. (Spells d u → Spells (one rs) (c ∷ u)) × (Spells (one rs) (c ∷ u) → Spells d u))
    (λ i. (λ h. (c, cc, i), λ h. cc h.1))
    (λ i. (λ h. absurd h, λ h. cc (h.1, h.2)))

then_front : (a b d : Expr) (c : ℕ) (u : List ℕ) → Follows c a d → Spells (seq d b) u → Spells (a then b) (c ∷ u)
then_front a b d c u f h =
    let k = (seq_is d b u).1 h in
    (c ∷ k.0, k.1, ap (λ l. c ∷ l) k.2, (f k.0).0 k.3, k.4)

then_back : (a b d : Expr) (c x : ℕ) (u s t : List ℕ) → Follows c a d → c ∷ u ≡ x ∷ (s ++ t) → Spells a (x ∷ s) → Spells b t → Spells (seq d b) u
then_back a b d c x u s t f q h k =
    let e : x ≡ c = cc in
    (seq_is d b u).0 (s, t, cc, (f s).1 (rw e at h), k)

then_is : (a b : Expr) (c : ℕ) (n : Bool) → nullable a ≡ n → Follows c a (der c a) → Follows c b (der c b) → Follows c (a then b) (cond n (alt (seq (der c a) b) (der c b)) (seq (der c a) b))
then_is a b c true e f g u = (out, in')
  where
    out : Spells (alt (seq (der c a) b) (der c b)) u → Spells (a then b) (c ∷ u)
    out h =
        ⊎_elim
        (λ x. then_front a b (der c a) c u f x)
        (λ x. ([], c ∷ u, refl, nullable_out a e, (g u).0 x))
        ((alt_is (seq (der c a) b) (der c b) u).1 h)

    in' : Spells (a then b) (c ∷ u) → Spells (alt (seq (der c a) b) (der c b)) u
    in' ([], t, q, x, y) = (alt_is (seq (der c a) b) (der c b) u).0 (inr ((g u).1 (rw q y)))
    in' (d ∷ s, t, q, x, y) = (alt_is (seq (der c a) b) (der c b) u).0 (inl (then_back a b (der c a) c d u s t f q x y))
then_is a b c false e f g u = (λ h. then_front a b (der c a) c u f h, in')
  where
    in' : Spells (a then b) (c ∷ u) → Spells (seq (der c a) b) u
    in' ([], t, q, x, y) = absurd (cc (nullable_in a x))
    in' (d ∷ s, t, q, x, y) = then_back a b (der c a) c d u s t f q x y

many_back : (a d : Expr) (c : ℕ) (u v : List ℕ) → Follows c a d → Star (Spells a) v → c ∷ u ≡ v → Spells (seq d (many a)) u
many_back a d c u v f stop q = absurd (cc)
many_back a d c u v f (more [] t e x y) q = many_back a d c u t f y (q ∙ e)
many_back a d c u v f (more (x ∷ s) t e h y) q = then_back a (many a) d c x u s t f (q ∙ e) h y

many_is : (a d : Expr) (c : ℕ) → Follows c a d → Follows c (many a) (seq d (many a))
many_is a d c f u = (
  (λ h. let k = then_front a (many a) d c u f h in more k.0 k.1 k.2 k.3 k.4),
  (λ h. many_back a d c u (c ∷ u) f h refl),
)

-- the derivative spells just what follows c
pub der_is : (c : ℕ) (e : Expr) → Follows c e (der c e)
der_is c never u = (λ h. h, λ h. h)
der_is c empty u = (λ h. absurd h, λ h. cc)
der_is c (one rs) u = one_is rs c u
der_is c (a then b) u = then_is a b c (nullable a) refl (der_is c a) (der_is c b) u
der_is c (a or b) u = (
  (λ h. ⊎_elim (λ x. inl ((der_is c a u).0 x)) (λ x. inr ((der_is c b u).0 x)) ((alt_is (der c a) (der c b) u).1 h)),
  (λ h. (alt_is (der c a) (der c b) u).0 (⊎_elim (λ x. inl ((der_is c a u).1 x)) (λ x. inr ((der_is c b u).1 x)) h)),
)
der_is c (many a) u = many_is a (der c a) c (der_is c a) u

pub ders_out : (p u : List ℕ) (e : Expr) → Spells (ders p e) u → Spells e (p ++ u)
ders_out [] u e h = h
ders_out (c ∷ p) u e h = (der_is c e (p ++ u)).0 (ders_out p u (der c e) h)
