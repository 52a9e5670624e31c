-- The line of a document at an offset, from where it ends. Assumes nothing.
use Rattle.std.proofs.Common.{◌≡◌, ℕ, zero, suc, ◌+◌, ◌-◌, ◌<◌, ◌≤◌, List, [], ◌∷◌, ◌++◌, length, get_or, take, drop, refl, ap, ◌∙◌, arith, take-append-drop}
use Rattle.std.proofs.lemmas.List.Edits.{length-between, split_between}
use Rattle.std.proofs.lemmas.List.{drop_more, drop_all, append_cancel_left}
use Rattle.grammar.specs.Readings.{Reading, Reads}
use Rattle.grammar.specs.Documents.{EndsLine, Unbroken, Ending, by, at_end, LineAt}
use Rattle.grammar.specs.Scanner.{piece}
use Rattle.grammar.proofs.Slices.{piece-none, piece-one, piece_join}

module _ (text : List ℕ) where
  unbroken_from : (n a e : ℕ) → e ≡ a + n → e ≤ length text → ((k : ℕ) → a ≤ k → k < e → EndsLine (get_or text k 0) → ⊥) → Unbroken (piece text a e)
  unbroken_from zero a e q l h = let z : a ≡ e = omega arith in rw (z, piece-none text e) tt
  unbroken_from (suc n) a e q l h =
      let p : piece text a e ≡ get_or text a 0 ∷ piece text (a + 1) e = cc (piece_join text a (a + 1) e (omega arith) (omega arith), piece-one text a (omega arith)) in
      rw p (h a (omega arith) (omega arith), unbroken_from n (a + 1) e (omega arith) l (λ k i j. h k (omega arith) j))

  drop-piece : (a e : ℕ) → a ≤ e → drop a text ≡ piece text a e ++ drop e text
  drop-piece a e h = append_cancel_left (take a text) _ _ (take-append-drop a text ∙ split_between text a e h)

  drop_some : (a : ℕ) → a < length text → drop a text ≡ [] → ⊥
  drop_some a h e = cc (drop_more text a 0 h)

  module _ (from e : ℕ) (r : Reading) (some : from < length text) (forward : from ≤ e) (h : (k : ℕ) → from ≤ k → k < e → EndsLine (get_or text k 0) → ⊥) (reads : Reads from (piece text from e) r) where
    line_to : (ending : List ℕ) (n : ℕ) → e ≤ length text → n ≡ e + length ending → drop e text ≡ ending ++ drop n text → Ending (drop n text) ending → LineAt text from r n
    line_to ending n l m q d = record {
      bs = piece text from e;
      ending = ending;
      cut = record {
        some = drop_some from some;
        split = drop-piece from e forward ∙ ap (λ u. piece text from e ++ u) q;
        unbroken = unbroken_from (e - from) from e (omega arith) l h;
        ended = d;
      };
      next_is = omega (arith, length-between text from e l);
      reads = reads;
    }

    pub line_by : e < length text → EndsLine (get_or text e 0) → LineAt text from r (e + 1)
    line_by l c = line_to (get_or text e 0 ∷ []) (e + 1) (omega arith) refl (drop_more text e 0 l) (by (get_or text e 0) c)

    pub line-last : e ≡ length text → LineAt text from r e
    line-last l = line_to [] e (omega arith) (omega arith) refl (at_end (drop_all e text (omega arith)))
