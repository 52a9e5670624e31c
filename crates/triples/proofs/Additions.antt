-- What an add leaves, whatever it answers.
use Rattle.std.proofs.Common.{◌≡◌, ℕ, true, Ok, Err, Result, is_ok, sym, ◌∙◌}
use Rattle.std.proofs.lemmas.Bool.{false≢true}
use Rattle.triples.specs.declared.triple.Triple.{Triple}
use Rattle.triples.specs.declared.store.Added.{Added}
use Rattle.triples.specs.declared.store.Added.TheVariants.{New, Had}
use Rattle.triples.specs.declared.store.Refusal.{Refusal}
use Rattle.triples.specs.Sets.{Graph, adding}
use Rattle.triples.specs.Stores.{Adds}
use Rattle.triples.proofs.Graphs.{adding_had}

module _ (n m : ℕ) (f : Graph) (t : Triple) (g : Graph) where
  -- an add that is not refused makes the set the one with the triple in it
  pub adds_puts : (a : Added) → Adds n m f t g (Ok a) → g ≡ adding f t
  adds_puts New h = h.3
  adds_puts Had h = h.2 ∙ sym (adding_had f t h.1)

  pub adds_ok : (r : Result Added Refusal) → is_ok r ≡ true → Adds n m f t g r → g ≡ adding f t
  adds_ok (Ok a) e h = adds_puts a h
  adds_ok (Err x) e h = absurd (false≢true e)
