-- A text on its own that is, or is not, a term. Assumes nothing.
use Rattle.std.proofs.Common.{◌≡◌, ℕ, ◌+◌, ◌<◌, ◌≤◌, true, false, not, eqb, List, [], ◌∷◌, ◌++◌, length, get_or, take, drop, sym, refl, ap, ◌∙◌, subst, inl, ⊎_elim, append_assoc, append-nil, arith, take-append-drop}
use Rattle.std.proofs.lemmas.Bool.{both_ways, not-true, cases_Bool, eqb-true, eqb-false}
use Rattle.std.proofs.lemmas.Bool.Decides.{nat_tests}
use Rattle.std.proofs.lemmas.Slice.{between_from_start}
use Rattle.std.proofs.lemmas.List.{take_all, drop_more}
use Rattle.grammar.specs.Regular.{Expr, to, inside, never, Spells, Is, stop}
use Rattle.grammar.specs.Productions.{part, object}
use Rattle.grammar.specs.Scanner as scan
use Rattle.grammar.specs.Scanner.{thing, dot, State, before, step, run, sort, in_term, Stands, Halted, Halts, Ended, piece}
use Rattle.grammar.proofs.Derivatives.{nullable, der, der_is, nullable_in}
use Rattle.grammar.proofs.Residue.{left}
use Rattle.grammar.proofs.States.{where_passed}
use Rattle.grammar.proofs.Runs.{no-part, left-low, left-part}
use Rattle.grammar.proofs.Finishes.{letter-stops}
use Rattle.grammar.proofs.LL1.{firsts}
use Rattle.grammar.proofs.Pieces.{begins_in}
use Rattle.grammar.proofs.Slices.{piece_whole}
use Rattle.grammar.proofs.Steps.{no_step}
use Rattle.grammar.proofs.Terms.{delimiter, one_term}

-- a term and a dot end a line from the object on
with_dot : (u : List ℕ) → Spells (object part) u → Spells (left part (before thing)) (u ++ 46 ∷ [])
with_dot u h = (
  u ++ 46 ∷ [],
  [],
  sym (append-nil (u ++ 46 ∷ [])),
  (u ++ 46 ∷ [], [], sym (append-nil (u ++ 46 ∷ [])), ([], u ++ 46 ∷ [], refl, stop, (u, 46 ∷ [], refl, h, ([], 46 ∷ [], refl, stop, (46, refl, refl)))), stop),
  inl refl,
)

module _ (bs : List ℕ) (h : Spells (object part) bs) where
  -- what is left before the byte at k
  rest_at : (k : ℕ) (t : State) → Stands (before thing) bs k t → k < length bs → (u : List ℕ) × Spells (left part t) (get_or bs k 0 ∷ u)
  rest_at k t st l =
      let v = drop (k + 1) bs ++ 46 ∷ [] in
      let e : bs ++ 46 ∷ [] ≡ take k bs ++ get_or bs k 0 ∷ v = cc (take-append-drop k bs, drop_more bs k 0 l, append_assoc (take k bs) (get_or bs k 0 ∷ drop (k + 1) bs) (46 ∷ [])) in
      (v, left-part (before thing) bs k t st (get_or bs k 0 ∷ v) (rw e at (with_dot bs h)))

  goes-dead : (k : ℕ) (t : State) → Stands (before thing) bs k t → k < length bs → left part (step t (get_or bs k 0)) ≡ never → ⊥
  goes-dead k t st l d =
      let r = rest_at k t st l in no-part t (get_or bs k 0) r.0 d r.1

  halted : (k n : ℕ) (t : State) → Stands (before thing) bs k t → Halted in_term (before thing) bs k t n → ⊥
  halted k n t st (scan.high l c) = let r = rest_at k t st l in omega (arith, left-low part t (get_or bs k 0) r.0 r.1)
  halted k n t st (scan.unicode l s e) = goes-dead k t st l (letter-stops (before thing) bs k t (get_or bs k 0) s e)
  halted k n t st (scan.other l c d) = goes-dead k t st l (ap (left part) d)
  halted k n t st (scan.short e i) =
      let w : Spells (left part (before thing)) (take k bs ++ 46 ∷ []) = rw (take_all k bs (omega arith)) (with_dot bs h) in
      let x = left-part (before thing) bs k t st (46 ∷ []) w in
      both_ways _ (not-true _ (where_passed (λ s. in_term (sort s)) (λ s. not (nullable (der 46 (left part s)))) refl t i)) (nullable_in (der 46 (left part t)) ((der_is 46 (left part t) []).1 x))

  -- a text that halts inside a term is no term
  pub not_halted : (k n : ℕ) → Halts in_term (before thing) bs k n → ⊥
  not_halted k n x = halted k n x.state x.stands x.why

  -- nor is one of which a shorter part is a term that has ended
  pub not_longer : (k : ℕ) → Ended (before thing) bs k dot → k < length bs → Spells (object part) (take k bs) → ⊥
  not_longer k x l s = ⊎_elim delimited (λ i. goes-dead k x.state x.stands l (ap (left part) (x.next l ∙ no_step (before dot) (get_or bs k 0) (grind (arith, nat_tests, i))))) (cases_Bool (inside delimiter (get_or bs k 0)))
    where
      delimited : inside delimiter (get_or bs k 0) ≡ true → ⊥
      delimited i =
          let e : take k bs ++ (get_or bs k 0 ∷ drop (k + 1) bs) ≡ bs ++ [] = cc (drop_more bs k 0 l, take-append-drop k bs, append-nil bs) in
          let q = one_term (take k bs) bs (get_or bs k 0 ∷ drop (k + 1) bs) [] s h i tt e in
          cc q.1

-- a text, by whether a term that begins it is all of it
module _ (e : Expr) (wide : (u : List ℕ) → Spells e u → Spells (object part) u) (bs : List ℕ) where
  pub is_all : (k : ℕ) → k ≤ length bs → Is e (piece bs 0 k) → eqb k (length bs) ≡ true → Is e bs
  is_all k l h q = subst (Is e) (ap (piece bs 0) (eqb-true k (length bs) q) ∙ piece_whole bs) h

  pub not_all : (k : ℕ) → k ≤ length bs → Is e (piece bs 0 k) → Ended (before thing) bs k dot → eqb k (length bs) ≡ false → Is e bs → ⊥
  not_all k l h x q i =
      let n = eqb-false k (length bs) q in
      not_longer bs (wide bs i.spelled) k x (omega arith) (wide (take k bs) (rw (between_from_start bs k) at h.spelled))

  pub not_stuck : (k n : ℕ) → Halts in_term (before thing) bs k n → Is e bs → ⊥
  not_stuck k n x i = not_halted bs (wide bs i.spelled) k n x

-- the first byte of a term
pub first_is : (e : Expr) (b : ℕ) (bs : List ℕ) → firsts e [] ≡ to b b ∷ [] → nullable e ≡ false → Is e bs → (0 < length bs) × (get_or bs 0 0 ≡ b)
first_is e b [] f n i = cc (nullable_in e i.spelled)
first_is e b (c ∷ u) f n i =
    let h : inside (to b b ∷ []) c ≡ true = subst (λ rs. inside rs c ≡ true) f (begins_in e (c ∷ u) i.spelled) in
    (omega arith, grind (arith, nat_tests))
