-- What follows a front of a text.
use Rattle.std.proofs.Common.{◌≡◌, ℕ, cond, eqb, List, [], ◌∷◌, ◌++◌, eq-eqb, refl, ap, ◌∙◌}
use Rattle.std.proofs.lemmas.Bool.{cond_both, eqb-true}
use Rattle.entailment.specs.Terms.{after}

pub after-front : (fs bs : List ℕ) → after fs (fs ++ bs) ≡ bs
after-front [] bs = refl
after-front (f ∷ fs) bs = ap (λ t. cond t (after fs (fs ++ bs)) []) (eq-eqb f f refl) ∙ after-front fs bs

-- a text with another front has nothing after it
pub after-other : (fs bs : List ℕ) → ((rest : List ℕ) → bs ≡ fs ++ rest → ⊥) → after fs bs ≡ []
after-other [] bs h = absurd (h bs refl)
after-other (f ∷ fs) [] h = refl
after-other (f ∷ fs) (b ∷ bs) h =
    cond_both (eqb f b) (after fs bs) [] (λ r. r ≡ [])
    (λ e. after-other fs bs (λ rest k. let same = eqb-true f b e in h rest cc))
    (λ _. refl)
