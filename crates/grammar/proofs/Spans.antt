-- A run of bytes that satisfy a predicate, up to a byte that does not, is unique. Assumes nothing.
use Rattle.std.proofs.Common.{◌≡◌, ℕ, true, List, [], ◌∷◌, ◌++◌, sym, refl, subst}
use Rattle.std.specs.List.{AllByRecursion}
use Rattle.grammar.specs.Regular.{Range, inside}

-- the first byte, if there is one, satisfies P
abbrev pub First : (ℕ → Type 0) → List ℕ → Type 0
First P [] = Unit {0}
First P (c ∷ u) = P c

module _ (P Q : ℕ → Type 0) (apart : (c : ℕ) → P c → Q c → ⊥) where
  pub one-run : (m n x y : List ℕ) → AllByRecursion P m → AllByRecursion P n → First Q x → First Q y → m ++ x ≡ n ++ y → (m ≡ n) × (x ≡ y)
  one-run [] [] x y a b f g e = (refl, e)
  one-run [] (d ∷ n) x y a b f g e = absurd (apart d b.0 (subst (First Q) e f))
  one-run (c ∷ m) [] x y a b f g e = absurd (apart c a.0 (subst (First Q) (sym e) g))
  one-run (c ∷ m) (d ∷ n) x y a b f g e = let h = one-run m n x y a.1 b.1 f g (cc) in (cc h.0, h.1)

-- the byte is in the class
abbrev pub In : List Range → ℕ → Type 0
In rs c = inside rs c ≡ true
