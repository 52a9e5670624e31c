-- Where the states halt, a line of the grammar stops. Assumes nothing.
use Rattle.std.proofs.Common.{◌≡◌, ℕ, ◌+◌, ◌<◌, true, not, ◌⊎◌, List, [], ◌∷◌, ◌++◌, length, get_or, take, sym, refl, ap, ◌∙◌, inl, inr, ⊎_elim, append_assoc, append-nil, arith}
use Rattle.std.proofs.lemmas.Bool.{both_ways, not-true}
use Rattle.std.proofs.lemmas.List.{take_all, take_more, same_from_push}
use Rattle.grammar.specs.Regular.{Expr, never, Spells, Begins}
use Rattle.grammar.specs.Productions.{full, part, line}
use Rattle.grammar.specs.Places.{GoesOn, begins, slashed, Why, high, unicode, other, short, Stops}
use Rattle.grammar.specs.Scanner as scan
use Rattle.grammar.specs.Scanner.{Next, verb, thing, dot, first, last, State, start, iri, slash, under, colon, label, before, string, escape, quoted, at, tag, hyphen, sub, caret, carets, ended, remark, uchar, dead, step, run, Sort, inner, between, done, slashes, escapes, letters, none, sort, plain, in_line, Stands, Slashed, in_iri, in_string, Halted, Halts}
use Rattle.grammar.proofs.Derivatives.{nullable, nullable_in}
use Rattle.grammar.proofs.Residue.{left, lettered}
use Rattle.grammar.proofs.States.{where_passed}
use Rattle.grammar.proofs.Runs.{lives, step_in, no-part, left-low, left_out, left-part, left-full}
use Rattle.grammar.proofs.Once.{begins_shorter}
use Rattle.grammar.proofs.Finishes.{plain_goes, letter_goes, letter-stops}

slashed-lives : (s : State) (bs : List ℕ) (k : ℕ) (t : State) → Slashed s bs k t → lives (sort t) ≡ true
slashed-lives s bs k t (in_iri n j a b x y) = refl
slashed-lives s bs k t in_string = refl

next_byte : (bs : List ℕ) (k : ℕ) (e : Expr) → k < length bs → Begins e (take (k + 1) bs) → (q : List ℕ) × Spells e (take k bs ++ get_or bs k 0 ∷ q)
next_byte bs k e l (q, x) = (q, rw (take_more bs k 0 l, append_assoc) at x)

module _ (bs : List ℕ) (k : ℕ) (t : State) (st : Stands start bs k t) where
  begins-part : plain (sort t) ≡ true → Begins (line part) (take k bs)
  begins-part h = let g = plain_goes t h in (g.0, left_out start bs k t st g.0 part g.1)

  begins-full : (c : ℕ) → Slashed start bs k t → (c ≡ 117) ⊎ (c ≡ 85) → Begins (line full) (take k bs ++ c ∷ [])
  begins-full c h e =
      let g = letter_goes start bs k t c h e in
      (g.0, rw append_assoc (left_out start bs k t st (c ∷ g.0) full g.1))

  before-letter : Slashed start bs k t → Begins (line full) (take k bs)
  before-letter h = begins_shorter (line full) (take k bs) (117 ∷ []) (begins-full 117 h (inl refl))

  goes : (plain (sort t) ≡ true) ⊎ Slashed start bs k t → GoesOn (line full) (line part) (take k bs)
  goes (inl h) = begins (begins-part h)
  goes (inr h) = after t st h
    where
      after : (t : State) → Stands start bs k t → Slashed start bs k t → GoesOn (line full) (line part) (take k bs)
      after t st (in_iri n j e l x y) =
          let q : take k bs ≡ take j bs ++ 92 ∷ [] = ap (λ i. take i bs) e ∙ take_more bs j 0 l ∙ ap (λ c. take j bs ++ c ∷ []) y in
          slashed (take j bs) q (g.0, left_out start bs j (iri n) x g.0 part g.1) (before-letter h)
        where
          g : (u : List ℕ) × Spells (left part (iri n)) u
          g = plain_goes (iri n) refl
      after t st in_string = begins (let g = plain_goes escape refl in (g.0, left_out start bs k escape st g.0 part g.1))

  lives_at : (plain (sort t) ≡ true) ⊎ Slashed start bs k t → lives (sort t) ≡ true
  lives_at (inl h) = where_passed (λ s. plain (sort s)) (λ s. lives (sort s)) refl t h
  lives_at (inr h) = slashed-lives start bs k t h

  -- the byte at k, by what is left before it
  module _ (l : k < length bs) where
    next-part : Begins (line part) (take (k + 1) bs) → (u : List ℕ) × Spells (left part t) (get_or bs k 0 ∷ u)
    next-part h = let n = next_byte bs k (line part) l h in (n.0, left-part start bs k t st (get_or bs k 0 ∷ n.0) n.1)

    next-full : (plain (sort t) ≡ true) ⊎ Slashed start bs k t → Begins (line full) (take (k + 1) bs) → (u : List ℕ) × Spells (left full t) (get_or bs k 0 ∷ u)
    next-full v h = let n = next_byte bs k (line full) l h in (n.0, left-full start bs k t st (get_or bs k 0 ∷ n.0) (lives_at v) n.1)

    no_part : left part (step t (get_or bs k 0)) ≡ never → Begins (line part) (take (k + 1) bs) → ⊥
    no_part d h = let n = next-part h in no-part t (get_or bs k 0) n.0 d n.1

    no_full : (plain (sort t) ≡ true) ⊎ Slashed start bs k t → step t (get_or bs k 0) ≡ dead → Begins (line full) (take (k + 1) bs) → ⊥
    no_full v d h = let n = next-full v h in rw d at (step_in full t (get_or bs k 0) n.0 (λ _. ap (λ s. lettered (sort s)) d) n.1)

  goes_not : (n : ℕ) → (plain (sort t) ≡ true) ⊎ Slashed start bs k t → Halted in_line start bs k t n → k < length bs → GoesOn (line full) (line part) (take (k + 1) bs) → ⊥
  goes_not n v (scan.high l h) m (begins x) = let z = next-part m x in omega (arith, left-low part t (get_or bs k 0) z.0 z.1)
  goes_not n v (scan.high l h) m (slashed p e x y) = let z = next-full m v y in omega (arith, left-low full t (get_or bs k 0) z.0 z.1)
  goes_not n v (scan.unicode l s e) m (begins x) = no_part m (letter-stops start bs k t (get_or bs k 0) s e) x
  goes_not n v (scan.unicode l s e) m (slashed p q x y) =
      let z : get_or bs k 0 ≡ 92 = (same_from_push (take k bs) p (get_or bs k 0) 92 (sym (take_more bs k 0 l) ∙ q)).1 in
      ⊎_elim (λ a. omega arith) (λ a. omega arith) e
  goes_not n v (scan.other l h d) m (begins x) = no_part m (ap (left part) d) x
  goes_not n v (scan.other l h d) m (slashed p q x y) = no_full m v d y
  goes_not n v (scan.short e h) m g = omega arith

  ends_not : (n : ℕ) → Halted in_line start bs k t n → k ≡ length bs → Spells (line part) bs → ⊥
  ends_not n (scan.high l h) e x = omega arith
  ends_not n (scan.unicode l s u) e x = omega arith
  ends_not n (scan.other l h d) e x = omega arith
  ends_not n (scan.short q h) e x =
      let w : Spells (line part) (take k bs ++ []) = rw (append-nil, take_all k bs (omega arith)) x in
      let y = left-part start bs k t st [] w in
      both_ways _ (not-true _ (where_passed (λ s. in_line (sort s)) (λ s. not (nullable (left part s))) refl t h)) (nullable_in (left part t) y)

  reason : (n : ℕ) → (plain (sort t) ≡ true) ⊎ Slashed start bs k t → Halted in_line start bs k t n → Why (line full) bs k n
  reason n v (scan.high l h) = high l h
  reason n v (scan.unicode l s e) = unicode l e (rw (take_more bs k 0 l) (begins-full (get_or bs k 0) s e))
  reason n v (scan.other l h d) = other l h (no_full l v d)
  reason n v (scan.short e h) = short e

-- a halt from the start is the first place where the line cannot go on
pub stops : (bs : List ℕ) (k n : ℕ) → Halts in_line start bs k n → Stops (line full) (line part) bs k n
stops bs k n h = record {
  before = goes bs k h.state h.stands h.live;
  here = goes_not bs k h.state h.stands n h.live h.why;
  end = ends_not bs k h.state h.stands n h.why;
  why = reason bs k h.state h.stands n h.live h.why;
}
