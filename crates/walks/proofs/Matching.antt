-- The walks through a store: the triples that pass the test whether they fit a pattern.
use Rattle.std.proofs.Common.{ℕ, ◌&&◌}
use Rattle.std.proofs.lemmas.Bool.Decides.{Decides-and}
use Rattle.triples.specs.declared.question.Pattern.{Pattern}
use Rattle.triples.specs.Sets.{Graph}
use Rattle.triples.specs.Questions.{free}
use Rattle.triples.specs.Stores.{Lawful}
use Rattle.triples.proofs.Lawfulness.{lawful-inside}
use Rattle.triples.proofs.Matching.{matches, matches_decides}
use Rattle.walks.proofs.Walking.{Through}

-- the triples of f that fit p
abbrev pub selected : Graph → Pattern → Graph
selected f p t = f t && matches p t

-- a walk through the triples of a store that fit p
pub walk_of : (n m : ℕ) (f : Graph) (p : Pattern) → Lawful n m f → Through f p (selected f p)
walk_of n m f p h = record {
  inside = lawful-inside n m f h;
  chosen = λ t. Decides-and (f t) (matches p t) ((λ e. e), (λ e. e)) (matches_decides p t);
}

-- a walk through all of them
pub walk_all : (n m : ℕ) (f : Graph) → Lawful n m f → Through f free f
walk_all n m f h = record {
  inside = lawful-inside n m f h;
  chosen = λ t. ((λ e. (e, (tt, tt, tt))), (λ e. e.0));
}
