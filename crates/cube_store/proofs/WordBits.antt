-- The bits of a word: one bit more, no bit, the bits of a shifted word, and the least set bit from a bit on.
use Rattle.std.proofs.Common.{◌≡◌, ℕ, ◌+◌, ◌-◌, ◌/◌, ◌%◌, ◌^◌, ◌<◌, ◌≤◌, max, Bool, true, false, eqb, ltb, ◌≢◌, Option, w64, sym, ap, ◌∙◌, subst, ⊎_elim, arith}
use Rattle.std.specs.Bool.{then_some}
use Rattle.std.specs.Int.Bits.{bit_or}
use Rattle.std.specs.Int.Count.{count_trailing_zeros, trailing_of_zero}
use Rattle.std.proofs.Math.Nat.{div-le_self}
use Rattle.std.proofs.lemmas.Nat.{shr-shr}
use Rattle.std.proofs.lemmas.Nat.Bits.{bit_at_or, bit_at-pow_same, bit_at-pow_other, bit_at-zero, bit_at-trailing_zeros}
use Rattle.std.proofs.lemmas.Bool.{cases_eq, cases_lt, eq-eqb, eqb-true, lt-ltb, le-ltb}
use Rattle.cube_store.specs.Bits.{bit_at}
use Rattle.cube_store.specs.Searches.{FirstBit}

pub bit_put : (w c : ℕ) → bit_at (bit_or w (2 ^ c)) c ≡ true
unfolding bit_at
bit_put w c =
    let one : max (w / 2 ^ c % 2) 1 ≡ 1 = omega arith in
    eq-eqb _ 1 (bit_at_or w (2 ^ c) c ∙ ap (max (w / 2 ^ c % 2)) (bit_at-pow_same c) ∙ one)

pub bit_other : (w c j : ℕ) → j ≢ c → bit_at (bit_or w (2 ^ c)) j ≡ bit_at w j
unfolding bit_at
bit_other w c j ne =
    let same : max (w / 2 ^ j % 2) 0 ≡ w / 2 ^ j % 2 = omega arith in
    ap (λ x. eqb x 1) (bit_at_or w (2 ^ c) j ∙ ap (max (w / 2 ^ j % 2)) (bit_at-pow_other c j ne) ∙ same)

pub bit_zero : (o : ℕ) → bit_at 0 o ≡ false
unfolding bit_at
bit_zero o = ap (λ x. eqb x 1) (bit_at-zero o)

pub bit_shr : (w a j : ℕ) → bit_at (w / 2 ^ a) j ≡ bit_at w (a + j)
unfolding bit_at
bit_shr w a j = ap (λ x. eqb (x % 2) 1) (shr-shr w a j)

module _ (w a b : ℕ) (fits : w < 2 ^ 64) where
  abbrev rest : ℕ
  rest = w / 2 ^ a

  abbrev zeros : ℕ
  zeros = count_trailing_zeros 64 rest

  small : rest < 2 ^ 64
  small = omega (arith, div-le_self w (2 ^ a))

  shifted : (j : ℕ) → rest / 2 ^ j % 2 ≡ w / 2 ^ (a + j) % 2
  shifted j = ap (λ x. x % 2) (shr-shr w a j)

  -- no bit between a and the place that the trailing zeros give
  passes : (k : ℕ) → a ≤ k → bit_at w k ≡ true → a + zeros ≤ k
  unfolding bit_at
  passes k l h =
      let m : ℕ = k - a in
      let e : a + m ≡ k = omega arith in
      let set : rest / 2 ^ m % 2 ≡ 1 = shifted m ∙ ap (λ x. w / 2 ^ x % 2) e ∙ eqb-true _ 1 h in
      ⊎_elim
      (λ none. let unset : rest / 2 ^ m % 2 ≡ 0 = ap (λ x. x / 2 ^ m % 2) none ∙ bit_at-zero m in absurd (omega arith))
      (λ some.
      ⊎_elim
      (λ lt. let unset : rest / 2 ^ m % 2 ≡ 0 = (bit_at-trailing_zeros w64 rest (omega arith) small).2 m lt in absurd (omega arith))
      (λ ge. omega arith)
      (cases_lt m zeros))
      (cases_eq rest 0)

  is_set : a + zeros < 64 → bit_at w (a + zeros) ≡ true
  unfolding bit_at
  is_set l =
      ⊎_elim
      (λ none. let all : zeros ≡ 64 = ap (count_trailing_zeros 64) none ∙ trailing_of_zero 64 in absurd (omega arith))
      (λ some. eq-eqb _ 1 (sym (shifted zeros) ∙ (bit_at-trailing_zeros w64 rest (omega arith) small).1))
      (cases_eq rest 0)

  -- the place, if it is below b, is the first set bit
  pub first_found : (r : Option ℕ) → b ≤ 64 → r ≡ then_some (ltb (a + zeros) b) (a + zeros) → FirstBit w a b r
  first_found r l e =
      subst (FirstBit w a b) (sym e)
      (⊎_elim
      (λ lt. subst (λ (t : Bool). FirstBit w a b (then_some t (a + zeros))) (sym (lt-ltb (a + zeros) b lt)) (omega arith, lt, is_set (omega arith), passes))
      (λ ge. subst (λ (t : Bool). FirstBit w a b (then_some t (a + zeros))) (sym (le-ltb (a + zeros) b ge)) (λ k from to h. omega (arith, passes k from h)))
      (cases_lt (a + zeros) b))
