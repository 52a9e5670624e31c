-- What a triple store means, and what its add answers. Assumes nothing.
use Rattle.std.specs.Prelude.{◌≡◌, ℕ, ◌<◌, ◌≤◌, true, false, Ok, Err, Result}
use Rattle.triples.specs.declared.triple.Triple.{Triple}
use Rattle.triples.specs.declared.store.Added.{Added}
use Rattle.triples.specs.declared.store.Added.TheVariants.{New, Had}
use Rattle.triples.specs.declared.store.Refusal.{Refusal}
use Rattle.triples.specs.declared.store.Refusal.TheVariants.{Outside, Full}
use Rattle.triples.specs.Codes.{width, Inside}
use Rattle.triples.specs.Sets.{Graph, adding, size}

-- the least side that a store can have
abbrev pub least_side : ℕ
least_side = 32

-- what is so of every store: its side n, its capacity m and the set f that it holds
pub record Lawful (n m : ℕ) (f : Graph) : Type 0 where
  pub wide : least_side ≤ n
  pub narrow : n ≤ width
  pub within : (t : Triple) → f t ≡ true → Inside n t
  pub few : size f ≤ m

-- the number of a refusal
abbrev pub number : Refusal → ℕ
number Outside = 6
number Full = 7

-- when add refuses so, at the side n, the capacity m, the set f and the triple t
abbrev pub Refuses : ℕ → ℕ → Graph → Triple → Refusal → Type 0
Refuses n m f t Outside = Inside n t → ⊥
Refuses n m f t Full = Inside n t × (f t ≡ false) × (m ≤ size f)

-- when add is served so, and the set g afterwards
abbrev pub Serves : ℕ → ℕ → Graph → Triple → Graph → Added → Type 0
Serves n m f t g New = Inside n t × (f t ≡ false) × (size f < m) × (g ≡ adding f t)
Serves n m f t g Had = Inside n t × (f t ≡ true) × (g ≡ f)

-- what add answers, and the set g afterwards: a refusal leaves the set
abbrev pub Adds : ℕ → ℕ → Graph → Triple → Graph → Result Added Refusal → Type 0
Adds n m f t g (Ok a) = Serves n m f t g a
Adds n m f t g (Err e) = Refuses n m f t e × (g ≡ f)
