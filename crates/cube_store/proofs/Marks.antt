-- What the words mean when they are wiped, and when a triple's bit is set.
use Rattle.std.proofs.Common.{◌≡◌, ℕ, ◌^◌, ◌≤◌, Bool, true, false, ◌&&◌, List, length, get_or, sym, refl, ap, ◌∙◌, ⊎_elim, arith}
use Rattle.std.proofs.Math.Path.{fun_ext}
use Rattle.std.specs.Int.Bits.{bit_or}
use Rattle.std.proofs.lemmas.List.{get_or-set_same, get_or-set_other}
use Rattle.std.proofs.lemmas.Bool.{cases_eq, cases_Bool, and_from, and_right, lt-ltb}
use Rattle.triples.specs.declared.triple.Triple.{Triple}
use Rattle.triples.specs.Codes.{Inside}
use Rattle.triples.specs.Sets.{adding, empty}
use Rattle.triples.proofs.Triples.{triple_eq}
use Rattle.triples.proofs.Graphs.{is_adding}
use Rattle.cube_store.specs.Bits.{side, rows, row_of, in_cube, bit_at, bits, marking}
use Rattle.cube_store.specs.Laws.{cube_inside, bits_inside}
use Rattle.cube_store.proofs.WordBits.{bit_put, bit_other, bit_zero}

in_cube_lem : (t : Triple) → Inside side t → in_cube t ≡ true
in_cube_lem t i = and_from _ _ (lt-ltb _ _ i.0) (and_from _ _ (lt-ltb _ _ i.1) (lt-ltb _ _ i.2))

pub bits_in : (ws : List ℕ) (t : Triple) → Inside side t → bits ws t ≡ bit_at (get_or ws (row_of t.subject t.predicate) 0) t.object
unfolding bits
bits_in ws t i = ap (λ b. b && bit_at (get_or ws (row_of t.subject t.predicate) 0) t.object) (in_cube_lem t i)

pub bits_out : (ws : List ℕ) (t : Triple) → (Inside side t → ⊥) → bits ws t ≡ false
bits_out ws t h = ⊎_elim (λ e. absurd (h (bits_inside ws t e))) (λ e. e) (cases_Bool (bits ws t))

pub bits_none : (ws : List ℕ) → ((k : ℕ) → get_or ws k 0 ≡ 0) → bits ws ≡ empty
unfolding bits
bits_none ws h =
    fun_ext (λ t. and_right (in_cube t) _ (ap (λ w. bit_at w t.object) (h (row_of t.subject t.predicate)) ∙ bit_zero t.object))

both : (b x y : Bool) → (b ≡ true → x ≡ y) → (b && x) ≡ (b && y)
both true x y h = h refl
both false x y h = refl

-- the bit of a triple set
module _ (ws : List ℕ) (t : Triple) (i : Inside side t) (l : rows ≤ length ws) where
  abbrev row : ℕ
  row = row_of t.subject t.predicate

  abbrev word : ℕ
  word = get_or ws row 0

  at_row : get_or (marking ws t) row 0 ≡ bit_or word (2 ^ t.object)
  at_row = get_or-set_same ws row (bit_or word (2 ^ t.object)) 0 (omega arith)

  -- the word and the bit of another triple
  other_bit : (u : Triple) → (u ≡ t → ⊥) → Inside side u → bit_at (get_or (marking ws t) (row_of u.subject u.predicate) 0) u.object ≡ bit_at (get_or ws (row_of u.subject u.predicate) 0) u.object
  other_bit u ne d =
      ⊎_elim
      (λ e.
      let o : u.object ≡ t.object → ⊥ = λ h. ne (triple_eq u t (omega arith) (omega arith) h) in
      ap (λ k. bit_at (get_or (marking ws t) k 0) u.object) e
      ∙ ap (λ w. bit_at w u.object) at_row
      ∙ bit_other word t.object u.object o
      ∙ ap (λ k. bit_at (get_or ws k 0) u.object) (sym e))
      (λ h. ap (λ w. bit_at w u.object) (get_or-set_other ws row (row_of u.subject u.predicate) (bit_or word (2 ^ t.object)) 0 h))
      (cases_eq (row_of u.subject u.predicate) row)

  pub bits-marking : bits (marking ws t) ≡ adding (bits ws) t
  unfolding bits
  bits-marking =
      is_adding (bits ws) (bits (marking ws t)) t
      (bits_in (marking ws t) t i ∙ ap (λ w. bit_at w t.object) at_row ∙ bit_put word t.object)
      (λ u ne. both (in_cube u) _ _ (λ h. other_bit u ne (cube_inside u h)))
