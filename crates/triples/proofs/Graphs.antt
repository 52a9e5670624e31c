-- A set with one triple more.
use Rattle.std.proofs.Common.{◌≡◌, true, ◌||◌, ◌⊎◌, sym, refl, ap, ◌∙◌, inl, inr, ⊎_elim}
use Rattle.std.proofs.Math.Path.{fun_ext}
use Rattle.std.proofs.lemmas.Bool.{or_cases, or_right}
use Rattle.triples.specs.declared.triple.Triple.{Triple}
use Rattle.triples.specs.Sets.{Graph, same, adding}
use Rattle.triples.proofs.Triples.{same_refl, same_true, ne_same, cases_triple}

pub adding-at : (f : Graph) (t : Triple) → adding f t t ≡ true
adding-at f t = ap (λ b. b || f t) (same_refl t)

pub adding_off : (f : Graph) (t u : Triple) → (u ≡ t → ⊥) → adding f t u ≡ f u
adding_off f t u ne = ap (λ b. b || f u) (ne_same u t ne)

pub adding_on : (f : Graph) (t u : Triple) → f u ≡ true → adding f t u ≡ true
adding_on f t u h = or_right (same u t) (f u) h

pub adding_cases : (f : Graph) (t u : Triple) → adding f t u ≡ true → (u ≡ t) ⊎ (f u ≡ true)
adding_cases f t u h = ⊎_elim (λ e. inl (same_true u t e)) inr (or_cases (same u t) (f u) h)

-- a set that has t, and else is as f
pub is_adding : (f g : Graph) (t : Triple) → g t ≡ true → ((u : Triple) → (u ≡ t → ⊥) → g u ≡ f u) → g ≡ adding f t
is_adding f g t here other =
    fun_ext (λ u. ⊎_elim (λ e. ap g e ∙ here ∙ sym (ap (adding f t) e ∙ adding-at f t)) (λ ne. other u ne ∙ sym (adding_off f t u ne)) (cases_triple u t))

-- a triple that is there already
pub adding_had : (f : Graph) (t : Triple) → f t ≡ true → adding f t ≡ f
adding_had f t h = sym (is_adding f f t h (λ u ne. refl))
