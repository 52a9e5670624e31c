-- `a then b` and `a or b` with what is never or empty left out, which spell the same. Assumes nothing.
use Rattle.std.proofs.Common.{ℕ, List, [], refl, inl, inr, ⊎_elim}
use Rattle.grammar.specs.Regular.{Expr, never, empty, one, ◌then◌, ◌or◌, many, Spells}

-- `a then b`, where a may be never or empty
abbrev pub seq : Expr → Expr → Expr
seq never b = never
seq empty b = b
seq (one rs) b = one rs then b
seq (a then a') b = (a then a') then b
seq (a or a') b = (a or a') then b
seq (many a) b = many a then b

-- `a or b`, where b may be never
abbrev alt' : Expr → Expr → Expr
alt' a never = a
alt' a empty = a or empty
alt' a (one rs) = a or one rs
alt' a (b then b') = a or (b then b')
alt' a (b or b') = a or (b or b')
alt' a (many b) = a or many b

-- and where a may be too
abbrev pub alt : Expr → Expr → Expr
alt never b = b
alt empty b = alt' empty b
alt (one rs) b = alt' (one rs) b
alt (a then a') b = alt' (a then a') b
alt (a or a') b = alt' (a or a') b
alt (many a) b = alt' (many a) b

-- two expressions spell the same
abbrev pub Same : Expr → Expr → Type 0
Same a b = (u : List ℕ) → (Spells a u → Spells b u) × (Spells b u → Spells a u)

pub seq_is : (a b : Expr) → Same (a then b) (seq a b)
seq_is never b u = (λ h. h.3, λ h. absurd h)
seq_is empty b u = (λ h. rw (h.2, h.3) h.4, λ h. ([], u, refl, refl, h))
seq_is (one rs) b u = (λ h. h, λ h. h)
seq_is (a then a') b u = (λ h. h, λ h. h)
seq_is (a or a') b u = (λ h. h, λ h. h)
seq_is (many a) b u = (λ h. h, λ h. h)

alt'_is : (a b : Expr) → Same (a or b) (alt' a b)
alt'_is a never u = (λ h. ⊎_elim (λ x. x) (λ x. absurd x) h, λ h. inl h)
alt'_is a empty u = (λ h. h, λ h. h)
alt'_is a (one rs) u = (λ h. h, λ h. h)
alt'_is a (b then b') u = (λ h. h, λ h. h)
alt'_is a (b or b') u = (λ h. h, λ h. h)
alt'_is a (many b) u = (λ h. h, λ h. h)

pub alt_is : (a b : Expr) → Same (a or b) (alt a b)
alt_is never b u = (λ h. ⊎_elim (λ x. absurd x) (λ x. x) h, λ h. inr h)
alt_is empty b u = alt'_is empty b u
alt_is (one rs) b u = alt'_is (one rs) b u
alt_is (a then a') b u = alt'_is (a then a') b u
alt_is (a or a') b u = alt'_is (a or a') b u
alt_is (many a) b u = alt'_is (many a) b u
