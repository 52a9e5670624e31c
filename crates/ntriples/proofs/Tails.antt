-- A run of bytes of a class in what stands from an offset on, as one of the whole list. Assumes nothing.
use Rattle.std.proofs.Common.{◌≡◌, ℕ, ◌+◌, ◌-◌, ◌≤◌, List, length, get_or, drop, sym, ap, ◌∙◌, arith}
use Rattle.std.proofs.lemmas.List.{get_or-drop, length-drop, take_all}
use Rattle.grammar.specs.Regular.{Range, inside}
use Rattle.grammar.specs.Scanner.{piece, RunTo}

module _ (bs : List ℕ) (a : ℕ) (l : a ≤ length bs) where
  tail-drop : piece bs a (length bs) ≡ drop a bs
  tail-drop = take_all (length bs - a) (drop a bs) (omega (arith, length-drop a bs))

  tail-length : length (piece bs a (length bs)) ≡ length bs - a
  tail-length = ap length tail-drop ∙ length-drop a bs

  tail-at : (k : ℕ) → get_or (piece bs a (length bs)) k 0 ≡ get_or bs (a + k) 0
  tail-at k = ap (λ s. get_or s k 0) tail-drop ∙ get_or-drop a bs k 0

  pub tail-run : (rs : List Range) (n : ℕ) → RunTo rs (piece bs a (length bs)) 0 n → RunTo rs bs a (a + n)
  tail-run rs n r = record {
    forward = omega arith;
    within = omega (arith, r.within, tail-length);
    all = λ k i j. let z : a + (k - a) ≡ k = omega arith in sym (ap (inside rs) (tail-at (k - a) ∙ ap (λ m. get_or bs m 0) z)) ∙ r.all (k - a) (omega arith) (omega arith);
    past = λ h. sym (ap (inside rs) (tail-at n)) ∙ r.past (omega (arith, tail-length));
  }
