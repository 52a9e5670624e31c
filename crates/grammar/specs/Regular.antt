-- Regular expressions over bytes, and the strings that they stand for. Assumes nothing.
use Rattle.std.specs.Prelude.{◌≡◌, ℕ, Bool, true, false, ◌&&◌, ◌||◌, ◌⊎◌, List, [], ◌∷◌, ◌++◌, nat_le}

-- a class of bytes is a list of ranges, both ends included, as [a-zA-Z]
pub record Range : Type 0 where
  pub low : ℕ
  pub high : ℕ

abbrev pub to : ℕ → ℕ → Range
to a b = record { low = a; high = b }

abbrev pub inside : List Range → ℕ → Bool
inside [] c = false
inside (r ∷ rs) c = (nat_le r.low c && nat_le c r.high) || inside rs c

infixr 30 ◌then◌
infixr 20 ◌or◌
pub data Expr : Type 0 where
  never : Expr  -- no string
  empty : Expr  -- the empty string
  one : List Range → Expr  -- one byte of the class
  ◌then◌ : Expr → Expr → Expr
  ◌or◌ : Expr → Expr → Expr
  many : Expr → Expr  -- any number of strings, one after another

-- any number of strings of L, one after another
pub data Star (L : List ℕ → Type 0) : List ℕ → Type 0 where
  stop : Star L []
  more : {u : List ℕ} (s t : List ℕ) → u ≡ s ++ t → L s → Star L t → Star L u

-- the expression spells the string
abbrev pub Spells : Expr → List ℕ → Type 0
Spells never u = ⊥
Spells empty u = u ≡ []
Spells (one rs) u = (c : ℕ) × (u ≡ c ∷ []) × (inside rs c ≡ true)
Spells (a then b) u = (s : List ℕ) × (t : List ℕ) × (u ≡ s ++ t) × Spells a s × Spells b t
Spells (a or b) u = Spells a u ⊎ Spells b u
Spells (many a) u = Star (Spells a) u

-- the same under a name that stays shut
pub record Is (e : Expr) (u : List ℕ) : Type 0 where
  pub spelled : Spells e u

-- p begins some string that the expression spells
abbrev pub Begins : Expr → List ℕ → Type 0
Begins e p = (q : List ℕ) × Spells e (p ++ q)
