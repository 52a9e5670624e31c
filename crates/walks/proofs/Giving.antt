-- How many triples a walk gives.
use Rattle.std.proofs.Common.{◌≡◌, ℕ, ◌+◌, List, [], ◌∷◌, length, Option, sym, ap, ◌∙◌, subst, arith}
use Rattle.std.specs.Iterator.{Yields, Drains}
use Rattle.triples.specs.declared.triple.Triple.{Triple}
use Rattle.triples.specs.declared.question.Pattern.{Pattern}
use Rattle.triples.specs.declared.question.Question.{Question}
use Rattle.triples.specs.Codes.{code_of}
use Rattle.triples.specs.Sets.{Graph, size}
use Rattle.triples.specs.Questions.{Nothing, Least}
use Rattle.triples.proofs.Sizes.{size-empty}
use Rattle.walks.specs.declared.walk.Walk.{Walk}
use Rattle.walks.specs.Copies.{below}
use Rattle.walks.specs.Steps.{past, WalksOn}
use Rattle.walks.proofs.Walking.{Through, below-zero, ended, steps_size}

module _ {X : Type 0} (held : X → Graph) {f g : Graph} {p : Pattern} (w : Through f p g) where
  abbrev gives : Walk X → Option Triple → Walk X → Type 0
  gives s r t = (t.store ≡ s.store) × WalksOn (held s.store.now) s.question r t.question

  abbrev from : ℕ → Question
  from k = record { lowest = k; pattern = p }

  passed_more : (xs : List Triple) (s t : Walk X) (k : ℕ) → held s.store.now ≡ f → s.question ≡ from k → Yields gives s xs t → (m : ℕ) × (held t.store.now ≡ f) × (t.question ≡ from m) × (size (below m g) ≡ size (below k g) + length xs)
  passed_more [] s t k over asks e =
      (k, ap (λ (r : Walk X). held r.store.now) (sym e) ∙ over, ap (λ (r : Walk X). r.question) (sym e) ∙ asks, omega arith)
  passed_more (x ∷ xs) s t k over asks y =
      let next : Least f (from k) x =
      subst (λ (q : Question). Least f q x) asks (subst (λ (h : Graph). Least h s.question x) over y.1.1.0) in
      let rest =
      passed_more xs y.0 t (code_of x + 1) (ap (λ (r : _). held r.now) y.1.0 ∙ over) (y.1.1.1 ∙ ap (λ (q : Question). past x q.pattern) asks) y.2 in
      (rest.0, rest.1, rest.2, omega (arith, rest.3, steps_size w k x next))

  -- a walk from the start gives as many triples as fit
  pub gives_all : (xs : List Triple) (s : Walk X) → held s.store.now ≡ f → s.question ≡ from 0 → Drains gives s xs → length xs ≡ size g
  gives_all xs s over asks d =
      let y = passed_more xs s d.1.0 0 over asks d.1.1 in
      let none : Nothing f (from y.0) =
      subst (λ (q : Question). Nothing f q) y.2 (subst (λ (h : Graph). Nothing h d.1.0.question) y.1 d.1.2.1.0) in
      omega (arith, ap size (ended w y.0 none), ap size (below-zero g), size-empty, y.3)
