-- What a stack holds, the top first, and what its calls answer. Assumes nothing.
use Rattle.std.specs.Prelude.{◌≡◌, ℕ, ◌<◌, ◌≤◌, List, [], ◌∷◌, length, take, reverse, Some, None, Option, Ok, Err, Result}
use Rattle.stacks.specs.declared.Full.{Full}

-- the first n elements of a list, the last of them on top
abbrev pub pile : {A : Type 0} → ℕ → List A → List A
pile n xs = reverse (take n xs)

-- what a push of x onto the pile xs answers, where there is room for n, and the pile ys afterwards
abbrev pub Pushes : {A : Type 0} → ℕ → List A → A → List A → Result (Unit {0}) Full → Type 0
Pushes n xs x ys (Ok u) = (length xs < n) × (ys ≡ x ∷ xs)
Pushes n xs x ys (Err e) = (n ≤ length xs) × (ys ≡ xs)

-- what a pop from the pile xs answers, and the pile ys afterwards
abbrev pub Pops : {A : Type 0} → List A → List A → Option A → Type 0
Pops xs ys None = (xs ≡ []) × (ys ≡ [])
Pops xs ys (Some x) = xs ≡ x ∷ ys

-- what is on top of the pile xs
abbrev pub Tops : {A : Type 0} → List A → Option A → Type 0
Tops xs None = xs ≡ []
Tops {A} xs (Some x) = (ys : List A) × (xs ≡ x ∷ ys)
