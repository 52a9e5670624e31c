-- A set within another is no larger, and is the other where it is as large.
use Rattle.std.proofs.Common.{◌≡◌, ℕ, zero, suc, ◌<◌, ◌≤◌, Bool, true, false, cond, refl, sym, ap, ◌∙◌, ⊎_elim, add-le-add, arith}
use Rattle.std.proofs.lemmas.Bool.{cases_eq}
use Rattle.triples.specs.declared.triple.Triple.{Triple}
use Rattle.triples.specs.Codes.{width, codes, code_of, triple_of, Inside}
use Rattle.triples.specs.Sets.{Graph, tally, size}
use Rattle.triples.proofs.Triples.{triple_of_code, code_below}
use Rattle.closing.specs.Passes.{Within}

cond_le : (b c : Bool) → (b ≡ true → c ≡ true) → cond b 1 0 ≤ cond c 1 0
cond_le true true h = omega arith
cond_le true false h = let no : false ≡ true = h refl in cc
cond_le false c h = omega arith

cond_back : (b c : Bool) → cond c 1 0 ≤ cond b 1 0 → c ≡ true → b ≡ true
cond_back true c l h = refl
cond_back false true l h = absurd (omega arith)
cond_back false false l h = h

module _ (f g : ℕ → Bool) (w : (k : ℕ) → f k ≡ true → g k ≡ true) where
  tally_within : (n : ℕ) → tally f n ≤ tally g n
  unfolding tally
  tally_within zero = omega arith
  tally_within (suc n) = add-le-add (cond_le (f n) (g n) (w n)) (tally_within n)

  tally_same : (n : ℕ) → tally g n ≤ tally f n → (k : ℕ) → k < n → g k ≡ true → f k ≡ true
  unfolding tally
  tally_same zero l k low h = absurd (omega arith)
  tally_same (suc n) l k low h =
      let one : cond (f n) 1 0 ≤ cond (g n) 1 0 = cond_le (f n) (g n) (w n) in
      let rest : tally f n ≤ tally g n = tally_within n in
      ⊎_elim
      (λ e. let back : cond (g n) 1 0 ≤ cond (f n) 1 0 = omega arith in ap f e ∙ cond_back (f n) (g n) back (sym (ap g e) ∙ h))
      (λ ne. tally_same n (omega arith) k (omega arith) h)
      (cases_eq k n)

module _ (f g : Graph) (w : Within f g) where
  pub size_within : size f ≤ size g
  unfolding size
  size_within = tally_within (λ k. f (triple_of k)) (λ k. g (triple_of k)) (λ k. w (triple_of k)) codes

  pub size_same : size g ≤ size f → (t : Triple) → Inside width t → g t ≡ true → f t ≡ true
  unfolding size
  size_same l t i h =
      let e = triple_of_code t i in
      sym (ap f e) ∙ tally_same (λ k. f (triple_of k)) (λ k. g (triple_of k)) (λ k. w (triple_of k)) codes l (code_of t) (code_below t i) (ap g e ∙ h)
