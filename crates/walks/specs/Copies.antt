-- What a copy of one set into another leaves. Assumes nothing.
use Rattle.std.specs.Prelude.{◌≡◌, ℕ, true, ◌&&◌, Ok, Err, Result, nat_lt}
use Rattle.triples.specs.Codes.{code_of}
use Rattle.triples.specs.Sets.{Graph, union}
use Rattle.triples.specs.Stores.{Refuses}
use Rattle.walks.specs.declared.copying.Stopped.{Stopped}

-- the triples of the set whose codes are below k
abbrev pub below : ℕ → Graph → Graph
below k f t = nat_lt (code_of t) k && f t

-- a copy of f into g, at the side n and the capacity m, stopped at a triple of f that is refused; all before it are in
pub record Stops (n m : ℕ) (f g h : Graph) (e : Stopped) : Type 0 where
  pub from : f e.triple ≡ true
  pub before : h ≡ union (below (code_of e.triple) f) g
  pub refused : Refuses n m h e.triple e.refusal

-- what a copy of f into g answers, and the set h afterwards
abbrev pub Copies : ℕ → ℕ → Graph → Graph → Graph → Result (Unit {0}) Stopped → Type 0
Copies n m f g h (Ok u) = h ≡ union f g
Copies n m f g h (Err e) = Stops n m f g h e
