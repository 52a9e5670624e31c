-- A pile with one element more, a pile without its top, and a pile cut down.
use Rattle.std.proofs.Common.{◌≡◌, ℕ, zero, suc, ◌+◌, ◌-◌, ◌<◌, ◌≤◌, List, [], ◌∷◌, length, get_or, take, drop, set, reverse, sym, ap, ◌∙◌, arith}
use Rattle.std.proofs.lemmas.List.{take_more, take_more_set, reverse-append, length-reverse, length-take-le}
use Rattle.stacks.specs.Piles.{pile}

module _ {A : Type 0} (xs : List A) where
  pub length-pile : (n : ℕ) → n ≤ length xs → length (pile n xs) ≡ n
  length-pile n le = length-reverse (take n xs) ∙ length-take-le n xs le

  pub pile-read : (n : ℕ) (d : A) → n < length xs → pile (n + 1) xs ≡ get_or xs n d ∷ pile n xs
  pile-read n d lt = ap reverse (take_more xs n d lt) ∙ reverse-append (take n xs) (get_or xs n d ∷ [])

  pub pile-top : (n : ℕ) (d : A) → 0 < n → n ≤ length xs → pile n xs ≡ get_or xs (n - 1) d ∷ pile (n - 1) xs
  pile-top n d pos le =
      let e : n ≡ n - 1 + 1 = omega arith in
      ap (λ (k : ℕ). pile k xs) e ∙ pile-read (n - 1) d (omega arith)

  pub pile-set : (n : ℕ) (x : A) → n < length xs → pile (n + 1) (set xs n x) ≡ x ∷ pile n xs
  pile-set n x lt = ap reverse (take_more_set xs n x lt) ∙ reverse-append (take n xs) (x ∷ [])

-- a pile without its k topmost elements
drop-pile : {A : Type 0} (xs : List A) (n k : ℕ) → n + k ≤ length xs → drop k (pile (n + k) xs) ≡ pile n xs
drop-pile xs n zero le = let e : n + 0 ≡ n = omega arith in ap (λ (j : ℕ). pile j xs) e
drop-pile [] n (suc k) le = absurd (omega arith)
drop-pile (x ∷ xs) n (suc k) le =
    let e : n + suc k ≡ n + k + 1 = omega arith in
    ap (λ (j : ℕ). drop (suc k) (pile j (x ∷ xs))) e
    ∙ ap (drop (suc k)) (pile-read (x ∷ xs) (n + k) x (omega arith))
    ∙ drop-pile (x ∷ xs) n k (omega arith)

pub pile-cut : {A : Type 0} (xs : List A) (n m : ℕ) → n ≤ m → m ≤ length xs → pile n xs ≡ drop (length (pile m xs) - n) (pile m xs)
pile-cut xs n m le within =
    let e : m ≡ n + (m - n) = omega arith in
    sym (drop-pile xs n (m - n) (omega arith))
    ∙ ap (λ (j : ℕ). drop (m - n) (pile j xs)) (sym e)
    ∙ ap (λ (j : ℕ). drop (j - n) (pile m xs)) (sym (length-pile xs m within))
