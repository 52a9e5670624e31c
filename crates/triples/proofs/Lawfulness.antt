-- What follows from what is so of every store.
use Rattle.std.proofs.Common.{◌≡◌, ℕ, true}
use Rattle.triples.specs.declared.triple.Triple.{Triple}
use Rattle.triples.specs.Codes.{width, Inside}
use Rattle.triples.specs.Sets.{Graph}
use Rattle.triples.specs.Stores.{Lawful}
use Rattle.triples.proofs.Triples.{inside-more}

-- the numbers of a stored triple are term numbers
pub lawful-inside : (n m : ℕ) (f : Graph) → Lawful n m f → (t : Triple) → f t ≡ true → Inside width t
lawful-inside n m f h t i = inside-more n width t h.narrow (h.within t i)
