-- How far a walk has come: the triples below the lowest code that it asks for, and what a step adds to them.
use Rattle.std.proofs.Common.{◌≡◌, ℕ, ◌+◌, ◌<◌, ◌≤◌, true, false, ltb, sym, ap, ◌∙◌, ⊎_elim, arith}
use Rattle.std.proofs.Math.Path.{fun_ext}
use Rattle.std.proofs.Math.Bool.{or_assoc}
use Rattle.std.proofs.lemmas.Bool.{cases_Bool, cases_lt, cases_order, both_ways, and_from, and_left, and_right, lt-ltb, le-ltb}
use Rattle.triples.specs.declared.triple.Triple.{Triple}
use Rattle.triples.specs.declared.question.Pattern.{Pattern}
use Rattle.triples.specs.Codes.{width, code_of, Inside}
use Rattle.triples.specs.Sets.{Graph, same, empty, adding, union, size}
use Rattle.triples.specs.Questions.{Nothing, Least}
use Rattle.triples.proofs.Triples.{code_only}
use Rattle.triples.proofs.Graphs.{is_adding}
use Rattle.triples.proofs.Sizes.{size-adding}
use Rattle.walks.specs.Copies.{below}
use Rattle.walks.specs.Selections.{Selects}

below_more : (g : Graph) (k : ℕ) (u : Triple) → g u ≡ true → code_of u < k → below k g u ≡ true
below_more g k u i l = and_from (ltb (code_of u) k) (g u) (lt-ltb (code_of u) k l) i

below_not : (g : Graph) (k : ℕ) (u : Triple) → k ≤ code_of u → below k g u ≡ false
below_not g k u l = and_left (ltb (code_of u) k) (g u) (le-ltb (code_of u) k l)

below_out : (g : Graph) (k : ℕ) (u : Triple) → g u ≡ false → below k g u ≡ false
below_out g k u e = and_right (ltb (code_of u) k) (g u) e

pub below-zero : (g : Graph) → below 0 g ≡ empty
below-zero g = fun_ext (λ u. below_not g 0 u (omega arith))

-- a triple more in the first of two sets
pub union_more : (f g : Graph) (t : Triple) → adding (union f g) t ≡ union (adding f t) g
union_more f g t = fun_ext (λ u. sym (or_assoc (same u t) (f u) (g u)))

-- a walk through the triples of f that fit p, which are those of g
pub record Through (f : Graph) (p : Pattern) (g : Graph) : Type 0 where
  pub inside : (t : Triple) → f t ≡ true → Inside width t
  pub chosen : Selects f p g

module _ {f g : Graph} {p : Pattern} (w : Through f p g) (k : ℕ) where
  -- at its end it has passed all
  pub ended : Nothing f (record { lowest = k; pattern = p }) → below k g ≡ g
  ended h =
      fun_ext (λ u.
      ⊎_elim
      (λ i.
      let in' = (w.chosen u).0 i in
      ⊎_elim (λ l. below_more g k u i l ∙ sym i) (λ l. absurd (both_ways (f u) (h u (l, in'.1)) in'.0)) (cases_lt (code_of u) k))
      (λ e. below_out g k u e ∙ sym e)
      (cases_Bool (g u)))

  module _ (t : Triple) (next : Least f (record { lowest = k; pattern = p }) t) where
    pub here : g t ≡ true
    here = (w.chosen t).1 (next.held, next.asked.1)

    new : below k g t ≡ false
    new = below_not g k t next.asked.0

    other : (u : Triple) → (u ≡ t → ⊥) → g u ≡ true → below (code_of t + 1) g u ≡ below k g u
    other u ne i =
        let in' = (w.chosen u).0 i in
        ⊎_elim
        (λ e. absurd (ne (code_only u t (w.inside u in'.0) (w.inside t next.held) e)))
        (⊎_elim
        (λ lt.
        ⊎_elim
        (λ l. below_more g (code_of t + 1) u i (omega arith) ∙ sym (below_more g k u i l))
        (λ l. absurd (both_ways (f u) (next.least u (l, in'.1) lt) in'.0))
        (cases_lt (code_of u) k))
        (λ gt. below_not g (code_of t + 1) u (omega arith) ∙ sym (below_not g k u (omega (arith, next.asked.0)))))
        (cases_order (code_of u) (code_of t))

    -- a step passes the triple, and nothing else
    pub steps_one : below (code_of t + 1) g ≡ adding (below k g) t
    steps_one =
        is_adding (below k g) (below (code_of t + 1) g) t (below_more g (code_of t + 1) t here (omega arith))
        (λ u ne. ⊎_elim (other u ne) (λ e. below_out g (code_of t + 1) u e ∙ sym (below_out g k u e)) (cases_Bool (g u)))

    pub steps_size : size (below (code_of t + 1) g) ≡ size (below k g) + 1
    steps_size = ap size steps_one ∙ size-adding (below k g) t (w.inside t next.held) new
