-- One byte of a class, and what stands between two given bytes. Assumes nothing.
use Rattle.std.proofs.Common.{◌≡◌, ℕ, true, false, eqb, List, [], ◌∷◌, ◌++◌, refl, ap, ◌∙◌, subst, ⊎_elim, ◌⊎◌, arith}
use Rattle.std.proofs.lemmas.List.{append_cancel_right}
use Rattle.std.proofs.lemmas.Bool.{eqb-false}
use Rattle.std.proofs.lemmas.Bool.Decides.{nat_tests}
use Rattle.grammar.specs.Regular.{Range, to, inside, Expr, ◌then◌, many, Star, Spells}
use Rattle.grammar.specs.Productions.{byte}

infixr 20 ◌also◌
-- each range of the class is one byte, of which P holds
pub data Singles (P : ℕ → Type 0) : List Range → Type 0 where
  no_more : Singles P []
  ◌also◌ : {b : ℕ} {rs : List Range} → P b → Singles P rs → Singles P (to b b ∷ rs)

single : (b c : ℕ) (rs : List Range) → inside (to b b ∷ rs) c ≡ true → (b ≡ c) ⊎ (inside rs c ≡ true)
single b c rs h = grind (arith, nat_tests)

pub one_of : (P : ℕ → Type 0) (rs : List Range) (c : ℕ) → Singles P rs → inside rs c ≡ true → P c
one_of P rs c no_more h = cc
one_of P rs c (◌also◌ {b} {rs = rs₁} p t) h = ⊎_elim (λ e. subst P e p) (one_of P rs₁ c t) (single b c rs₁ h)

pub byte_is : (b c : ℕ) → inside (to b b ∷ []) c ≡ true → c ≡ b
byte_is b c h = grind (arith, nat_tests)

byte_in : (b : ℕ) → inside (to b b ∷ []) b ≡ true
byte_in b = grind (arith, nat_tests)

-- a byte of a class is not one that the class lacks
pub apart : (rs : List Range) (c b : ℕ) → inside rs c ≡ true → inside rs b ≡ false → c ≡ b → ⊥
apart rs c b h k e = cc

pub differ : (a b : ℕ) (s t : List ℕ) → eqb a b ≡ false → a ∷ s ≡ b ∷ t → ⊥
differ a b s t n e = eqb-false a b n cc

abbrev pub delimited : ℕ → List ℕ → ℕ → List ℕ
delimited a u b = a ∷ (u ++ b ∷ [])

pub same-inner : (a b : ℕ) (u w : List ℕ) → delimited a u b ≡ delimited a w b → u ≡ w
same-inner a b u w e = let t : u ++ b ∷ [] ≡ w ++ b ∷ [] = cc in append_cancel_right u w (b ∷ []) t

pub first_byte : (b : ℕ) (e : Expr) (t : List ℕ) → Spells (byte b then e) t → (r : List ℕ) × (t ≡ b ∷ r) × Spells e r
first_byte b e t (s, r, q, (c, f, h), k) = (r, q ∙ ap (λ l. l ++ r) (f ∙ ap (λ x. x ∷ []) (byte_is b c h)), k)

pub unwrap : (a b : ℕ) (e : Expr) (t : List ℕ) → Spells (byte a then many e then byte b) t → (u : List ℕ) × (t ≡ delimited a u b) × Star (Spells e) u
unwrap a b e t h =
    let (r, q, (u, z, f, s, (c, g, k))) = first_byte a (many e then byte b) t h in
    (u, q ∙ ap (λ l. a ∷ l) (f ∙ ap (λ l. u ++ l) (g ∙ ap (λ x. x ∷ []) (byte_is b c k))), s)

pub wrap : (a b : ℕ) (e : Expr) (u : List ℕ) → Star (Spells e) u → Spells (byte a then many e then byte b) (delimited a u b)
wrap a b e u h = (a ∷ [], u ++ b ∷ [], refl, (a, refl, byte_in a), (u, b ∷ [], refl, h, (b, refl, byte_in b)))

pub inner : (a b : ℕ) (e : Expr) (u : List ℕ) → Spells (byte a then many e then byte b) (delimited a u b) → Star (Spells e) u
inner a b e u h = let (w, q, s) = unwrap a b e _ h in rw (same-inner a b u w q) s
