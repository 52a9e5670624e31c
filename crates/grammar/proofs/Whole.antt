-- Whole lines put together from their parts. Assumes nothing.
use Rattle.std.proofs.Common.{◌≡◌, ℕ, ◌+◌, ◌<◌, ◌≤◌, List, [], ◌∷◌, ◌++◌, length, get_or, sym, refl, ap, inl, inr, append_assoc, append-nil, arith}
use Rattle.std.proofs.lemmas.List.Edits.{length-between}
use Rattle.grammar.specs.Regular.{◌then◌, Spells, Is}
use Rattle.grammar.specs.Productions.{part, WS, comment, subject, predicate, object, rest, line}
use Rattle.grammar.specs.Readings.{Term, Fits, Holds}
use Rattle.grammar.specs.Scanner.{piece}
use Rattle.grammar.proofs.Slices.{piece-one, piece_join, piece_whole}

pub blank-line : (bs : List ℕ) → Spells WS bs → Spells (line part) bs
blank-line bs h = (bs, [], sym (append-nil bs), h, ([], [], refl, inl refl, inl refl))

pub comment-line : (bs : List ℕ) → Spells (WS then comment) bs → Spells (line part) bs
comment-line bs (w, c, e, x, y) = (w, c, e, x, ([], c, refl, inl refl, inr y))

pub holds_line : (base : ℕ) (bs : List ℕ) (at : ℕ) (s p o : Term) → Holds base bs at s p o → Spells (line part) bs
holds_line base bs at s p o h =
    let r = h.ends in
    let t = s.text ++ (h.w₂ ++ (p.text ++ (h.w₃ ++ (o.text ++ (h.w₄ ++ 46 ∷ []))))) in (
      h.w₁,
      (t ++ r.0) ++ r.1,
      simp append_assoc (rw r.2 at h.split),
      h.blanks.0,
      (
        t ++ r.0,
        r.1,
        refl,
        inr (
          t,
          r.0,
          refl,
          (s.text, _, refl, h.is_subject.allowed, (h.w₂, _, refl, h.blanks.1, (p.text, _, refl, h.is_predicate.allowed, (h.w₃, _, refl, h.blanks.2, (o.text, _, refl, h.is_object.allowed, (h.w₄, 46 ∷ [], refl, h.blanks.3, (46, refl, refl))))))),
          r.3,
        ),
        r.4,
      ),
    )

-- a line cut at the ends of its parts
pub split-line : (bs : List ℕ) (a b c d e f g : ℕ) → a ≤ b → b ≤ c → c ≤ d → d ≤ e → e ≤ f → f ≤ g → g < length bs → get_or bs g 0 ≡ 46
    → bs ≡ piece bs 0 a ++ (piece bs a b ++ (piece bs b c ++ (piece bs c d ++ (piece bs d e ++ (piece bs e f ++ (piece bs f g ++ 46 ∷ piece bs (g + 1) (length bs)))))))
split-line bs a b c d e f g i j k l m n o q =
    let z = length bs in
    cc (
      piece_whole bs,
      piece_join bs 0 a z (omega arith) (omega arith),
      piece_join bs a b z i (omega arith),
      piece_join bs b c z j (omega arith),
      piece_join bs c d z k (omega arith),
      piece_join bs d e z l (omega arith),
      piece_join bs e f z m (omega arith),
      piece_join bs f g z n (omega arith),
      piece_join bs g (g + 1) z (omega arith) (omega arith),
      piece-one bs g o,
    )

-- a triple from the ends of its parts
module _ (base : ℕ) (bs : List ℕ) (a b c d e f g : ℕ) (s p o : Term)
    (i : a ≤ b) (j : b ≤ c) (k : c ≤ d) (l : d ≤ e) (m : e ≤ f) (n : f ≤ g) (within : g < length bs) (dot : get_or bs g 0 ≡ 46)
    (x : s.text ≡ piece bs a b) (y : p.text ≡ piece bs c d) (z : o.text ≡ piece bs e f) where
  pub build_holds : Is WS (piece bs 0 a) → Is WS (piece bs b c) → Is WS (piece bs d e) → Is WS (piece bs f g) → Fits (subject part) s → Fits (predicate part) p → Fits (object part) o
      → Is rest (piece bs (g + 1) (length bs)) → s.offset ≡ base + a → p.offset ≡ base + c → o.offset ≡ base + e → Holds base bs (base + a) s p o
  build_holds u v w t fs fp fo r so po oo =
      let la = length-between bs 0 a (omega arith) in
      let ls : length s.text ≡ length (piece bs a b) = ap length x in
      let lb = length-between bs a b (omega arith) in
      let lc = length-between bs b c (omega arith) in
      let lp : length p.text ≡ length (piece bs c d) = ap length y in
      let ld = length-between bs c d (omega arith) in
      let le = length-between bs d e (omega arith) in
      let q = split-line bs a b c d e f g i j k l m n within dot in
      record {
        w₁ = piece bs 0 a;
        w₂ = piece bs b c;
        w₃ = piece bs d e;
        w₄ = piece bs f g;
        tail = piece bs (g + 1) (length bs);
        split = cc;
        blanks = (u.spelled, v.spelled, w.spelled, t.spelled);
        is_subject = fs;
        is_predicate = fp;
        is_object = fo;
        ends = r.spelled;
        at_is = omega (arith, la);
        s_at = so;
        p_at = omega (arith, ls, lb, lc);
        o_at = omega (arith, lp, ld, le);
      }
