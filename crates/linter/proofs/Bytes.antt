-- The first and the last byte of a line with its end tell a bare LF, and a line that ends in CR. Assumes nothing.
use Rattle.std.proofs.Common.{◌≡◌, ℕ, zero, suc, ◌+◌, ◌-◌, ◌<◌, ◌≤◌, true, false, eqb, List, [], ◌∷◌, ◌++◌, length, get_or, drop, sym, refl, ap, ◌∙◌, inl, inr, arith, ne_eqb, eqb-true}
use Rattle.std.proofs.lemmas.List.{get_or_at, get_or_append_left, get_or-drop, length-append, length-drop}
use Rattle.grammar.specs.Readings.{Reading}
use Rattle.grammar.specs.Documents.{EndsLine, Unbroken, Ending, by, at_end, Row, LineAt}
use Rattle.linter.specs.Verdicts.{ends_in, bare_lf}
use borrow.Author.Tests.{clash}

abbrev pub row_of : ℕ → Reading → List ℕ → List ℕ → Row
row_of n r bs e = record { offset = n; text = bs; ending = e; reading = r }

unbroken-at : (bs : List ℕ) (k : ℕ) → Unbroken bs → k < length bs → EndsLine (get_or bs k 0) → ⊥
unbroken-at [] k u h e = omega arith
unbroken-at (c ∷ bs) zero u h e = u.0 e
unbroken-at (c ∷ bs) (suc k) u h e = unbroken-at bs k u.1 (omega arith) e

some-from : (bs e a : List ℕ) → (bs ++ (e ++ a) ≡ [] → ⊥) → Ending a e → 0 < length bs + length e
some-from [] e a some (by c h) = omega arith
some-from [] e a some (at_end h) = absurd (some h)
some-from (c ∷ bs) e a some h = omega arith

first_byte : (n : ℕ) (r : Reading) (bs e a : List ℕ) → (bs ++ (e ++ a) ≡ [] → ⊥) → Unbroken bs → Ending a e
    → bare_lf (row_of n r bs e) ≡ eqb (get_or (bs ++ (e ++ a)) 0 0) 10
first_byte n r [] e a some u (by c h) = refl
first_byte n r [] e a some u (at_end h) = absurd (some h)
first_byte n r (c ∷ bs) e a some u h = sym (ne_eqb c 10 (λ q. u.0 (inl q)))

last_byte : (n : ℕ) (r : Reading) (bs e a : List ℕ) → (bs ++ (e ++ a) ≡ [] → ⊥) → Unbroken bs → Ending a e
    → ends_in 13 (row_of n r bs e) ≡ eqb (get_or (bs ++ (e ++ a)) (length bs + length e - 1) 0) 13
last_byte n r bs e a some u (by c h) = ap (λ d. eqb d 13) (sym (get_or_at bs c a 0 (length bs + 1 - 1) (omega arith)))
last_byte n r [] e a some u (at_end h) = absurd (some h)
last_byte n r (c ∷ bs) e a some u (at_end h) =
    let i = length (c ∷ bs) + 0 - 1 in
    let l : i < length (c ∷ bs) = omega arith in
    sym (ap (λ d. eqb d 13) (get_or_append_left (c ∷ bs) a 0 i l) ∙ ne_eqb (get_or (c ∷ bs) i 0) 13 (λ q. unbroken-at (c ∷ bs) i u l (inr q)))

pub bare_not_cr : (n : ℕ) (r : Reading) (bs e : List ℕ) → bare_lf (row_of n r bs e) ≡ true → ends_in 13 (row_of n r bs e) ≡ false
bare_not_cr n r [] [] h = refl
bare_not_cr n r [] (d ∷ e) h = ap (λ c. eqb c 13) (eqb-true d 10 h)
bare_not_cr n r (c ∷ bs) e h = absurd (clash h)

module _ (text : List ℕ) (pos : ℕ) (r : Reading) (next : ℕ) (l : LineAt text pos r next) where
  abbrev long : ℕ
  long = length l.bs + length l.ending

  some_bytes : 0 < long
  some_bytes = some-from l.bs l.ending (drop next text) (λ e. l.cut.some (l.cut.split ∙ e)) l.cut.ended

  -- a line lies within the text, and has a byte
  pub lengths : (pos < next) × (next ≤ length text)
  lengths =
      let e = ap length l.cut.split ∙ length-append l.bs (l.ending ++ drop next text) in
      (omega (arith, l.next_is, some_bytes), omega (arith, l.next_is, some_bytes, e, length-drop pos text, length-append l.ending (drop next text)))

  at_byte : (i j : ℕ) → pos + i ≡ j → get_or (l.bs ++ (l.ending ++ drop next text)) i 0 ≡ get_or text j 0
  at_byte i j e = ap (λ u. get_or u i 0) (sym l.cut.split) ∙ get_or-drop pos text i 0 ∙ ap (λ k. get_or text k 0) e

  pub bare_is : bare_lf (row_of pos r l.bs l.ending) ≡ eqb (get_or text pos 0) 10
  bare_is =
      first_byte pos r l.bs l.ending (drop next text) (λ e. l.cut.some (l.cut.split ∙ e)) l.cut.unbroken l.cut.ended
      ∙ ap (λ c. eqb c 10) (at_byte 0 pos (omega arith))

  pub cr_is : ends_in 13 (row_of pos r l.bs l.ending) ≡ eqb (get_or text (next - 1) 0) 13
  cr_is =
      last_byte pos r l.bs l.ending (drop next text) (λ e. l.cut.some (l.cut.split ∙ e)) l.cut.unbroken l.cut.ended
      ∙ ap (λ c. eqb c 13) (at_byte (long - 1) (next - 1) (omega (arith, l.next_is, some_bytes)))
