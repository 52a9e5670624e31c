-- A line is read in one way, and so is a document, which its lines make up. Assumes nothing.
use Rattle.std.proofs.Common.{◌≡◌, ℕ, ◌+◌, List, [], ◌∷◌, ◌++◌, length, drop, sym, refl, ◌∙◌, rules}
use Rattle.std.proofs.lemmas.List.{append-nil}
use Rattle.std.specs.List.{AllByRecursion, AllZip, concat}
use Rattle.grammar.specs.Regular.{Expr, empty, ◌then◌, Spells}
use Rattle.grammar.specs.Productions.{part, full, byte, WS, comment, subject, predicate, object, rest, line}
use Rattle.grammar.specs.Readings.{Term, Reading, a_triple, a_comment, nothing, a_fault, Fits, Holds, Reads}
use Rattle.grammar.specs.Documents.{EndsLine, Unbroken, Ending, by, at_end, Cut, LineAt, Row, Lines, none, more, joined}
use Rattle.grammar.proofs.Once.{one-stop, served}
use Rattle.grammar.proofs.Spans.{First, one-run}
use Rattle.grammar.proofs.Pieces.{thens, pieces_spell, same_pieces, not_both-after}
use Rattle.grammar.proofs.Terms.{one-kind}

-- a line with a triple, after the blanks before it
abbrev after-blanks : List Expr
after-blanks = subject part ∷ WS ∷ predicate part ∷ WS ∷ object part ∷ WS ∷ byte 46 ∷ rest ∷ []

-- terms that fit and have equal texts and offsets are equal
same_term : (e f : Expr) (s t : Term) → Fits e s → Fits f t → s.text ≡ t.text → s.offset ≡ t.offset → s ≡ t
same_term e f s t h k p q =
    let r = one-kind s.kind t.kind t.text (rw p at h.of_kind) k.of_kind in
    search rules

-- the parts of a line with a triple
module _ {base : ℕ} {bs : List ℕ} {at : ℕ} {s p o : Term} (h : Holds base bs at s p o) where
  abbrev parts-after : List (List ℕ)
  parts-after = s.text ∷ h.w₂ ∷ p.text ∷ h.w₃ ∷ o.text ∷ h.w₄ ∷ (46 ∷ []) ∷ h.tail ∷ []

  parts_are : AllZip Spells after-blanks parts-after
  parts_are =
      (h.is_subject.allowed, (h.blanks.1, (h.is_predicate.allowed, (h.blanks.2, (h.is_object.allowed, (h.blanks.3, ((46, refl, refl), (h.ends, tt))))))))

  split_is : bs ≡ h.w₁ ++ concat parts-after
  split_is = simp append-nil h.split

  triple_spells : Spells (WS then thens after-blanks) bs
  triple_spells = (h.w₁, concat parts-after, split_is, h.blanks.0, pieces_spell after-blanks parts-after parts_are)

module _ (base : ℕ) (bs : List ℕ) where
  same-triple : (at at' : ℕ) (s p o s' p' o' : Term) → Holds base bs at s p o → Holds base bs at' s' p' o' → a_triple at s p o ≡ a_triple at' s' p' o'
  same-triple at at' s p o s' p' o' h k =
      let e =
      same_pieces (WS ∷ after-blanks) (h.w₁ ∷ parts-after h) (k.w₁ ∷ parts-after k) refl
      (h.blanks.0, parts_are h) (k.blanks.0, parts_are k) (sym (split_is h) ∙ split_is k) in
      let x = same_term _ _ s s' h.is_subject k.is_subject (cc) (cc) in
      let y = same_term _ _ p p' h.is_predicate k.is_predicate (cc) (cc) in
      let z = same_term _ _ o o' h.is_object k.is_object (cc) (cc) in
      cc

  blanks-only : Spells WS bs → Spells (WS then empty) bs
  blanks-only h = (bs, [], sym (append-nil bs), h, refl)

  not_comment : (at : ℕ) (s p o : Term) → Holds base bs at s p o → Spells (WS then comment) bs → ⊥
  not_comment at s p o h k = not_both-after WS (thens after-blanks) comment bs refl refl refl (triple_spells h) k

  not_nothing : (at : ℕ) (s p o : Term) → Holds base bs at s p o → Spells WS bs → ⊥
  not_nothing at s p o h k = not_both-after WS (thens after-blanks) empty bs refl refl refl (triple_spells h) (blanks-only k)

  comment_or_nothing : Spells (WS then comment) bs → Spells WS bs → ⊥
  comment_or_nothing h k = not_both-after WS comment empty bs refl refl refl h (blanks-only k)

  no_fault : (n k : ℕ) → Spells (line part) bs → Reads base bs (a_fault n k) → ⊥
  no_fault n k l f = served (line full) (line part) bs f.0 n l f.2

  pub one-reading : (r t : Reading) → Reads base bs r → Reads base bs t → r ≡ t
  one-reading (a_triple at s p o) (a_triple at' s' p' o') h k = same-triple at at' s p o s' p' o' h.1 k.1
  one-reading (a_triple at s p o) a_comment h k = absurd (not_comment at s p o h.1 k.1)
  one-reading (a_triple at s p o) nothing h k = absurd (not_nothing at s p o h.1 k.1)
  one-reading (a_triple at s p o) (a_fault n i) h k = absurd (no_fault n i h.0 k)
  one-reading a_comment (a_triple at s p o) h k = absurd (not_comment at s p o k.1 h.1)
  one-reading a_comment a_comment h k = refl
  one-reading a_comment nothing h k = absurd (comment_or_nothing h.1 k.1)
  one-reading a_comment (a_fault n i) h k = absurd (no_fault n i h.0 k)
  one-reading nothing (a_triple at s p o) h k = absurd (not_nothing at s p o k.1 h.1)
  one-reading nothing a_comment h k = absurd (comment_or_nothing k.1 h.1)
  one-reading nothing nothing h k = refl
  one-reading nothing (a_fault n i) h k = absurd (no_fault n i h.0 k)
  one-reading (a_fault n i) (a_triple at s p o) h k = absurd (no_fault n i k.0 h)
  one-reading (a_fault n i) a_comment h k = absurd (no_fault n i k.0 h)
  one-reading (a_fault n i) nothing h k = absurd (no_fault n i k.0 h)
  one-reading (a_fault n i) (a_fault m j) h k =
      let c = one-stop (line full) (line part) bs h.0 n k.0 m h.2 k.2 in
      cc (h.1, k.1)

unbroken-all : (u : List ℕ) → Unbroken u → AllByRecursion (λ c. EndsLine c → ⊥) u
unbroken-all [] h = tt
unbroken-all (c ∷ u) h = (h.0, unbroken-all u h.1)

ending-first : (e a : List ℕ) → Ending a e → First EndsLine (e ++ a)
ending-first e a (by c h) = h
ending-first e a (at_end h) = rw h tt

same-ending : (e a e' a' : List ℕ) → Ending a e → Ending a' e' → e ++ a ≡ e' ++ a' → (e ≡ e') × (a ≡ a')
same-ending e a e' a' (by c h) (by d k) p = (cc, cc)
same-ending e a e' a' (by c h) (at_end k) p = absurd (cc)
same-ending e a e' a' (at_end h) (by d k) p = absurd (cc)
same-ending e a e' a' (at_end h) (at_end k) p = (refl, p)

pub one-cut : (text b e a b' e' a' : List ℕ) → Cut text b e a → Cut text b' e' a' → (b ≡ b') × (e ≡ e') × (a ≡ a')
one-cut text b e a b' e' a' h k =
    let p =
    one-run (λ c. EndsLine c → ⊥) EndsLine (λ c x y. x y) b b' (e ++ a) (e' ++ a') (unbroken-all b h.unbroken) (unbroken-all b' k.unbroken)
    (ending-first e a h.ended) (ending-first e' a' k.ended) (sym h.split ∙ k.split) in
    let q = same-ending e a e' a' h.ended k.ended p.1 in
    (p.0, q.0, q.1)

pub one_line : (text : List ℕ) (from : ℕ) (r t : Reading) (n m : ℕ) → LineAt text from r n → LineAt text from t m → (r ≡ t) × (n ≡ m)
one_line text from r t n m h k =
    let c = one-cut (drop from text) h.bs h.ending (drop n text) k.bs k.ending (drop m text) h.cut k.cut in
    (one-reading from k.bs r t (rw c.0 at h.reads) k.reads, cc (c.0, c.1))

lines_moved : {i j : ℕ} {u v : List ℕ} {rows : List Row} → i ≡ j → u ≡ v → Lines i u rows → Lines j v rows
lines_moved {i} {v = v} {rows = rows} p q l = rw (p, q) at l

pub one_lines : (at : ℕ) (text : List ℕ) (rows rows' : List Row) → Lines at text rows → Lines at text rows' → rows ≡ rows'
one_lines at text rows rows' none none = refl
one_lines at text rows rows' none (more after c o r l) = absurd (c.some refl)
one_lines at text rows rows' (more after c o r l) none = absurd (c.some refl)
one_lines at text (row ∷ rows) (row' ∷ rows') (more after c o r l) (more after' c' o' r' l') =
    let e = one-cut text row.text row.ending after row'.text row'.ending after' c c' in
    let s = one-reading at row'.text row.reading row'.reading (rw e.0 at r) r' in
    let i : row ≡ row' = search (rules, o ∙ sym o', e, s) in
    let j = one_lines (at + length row'.text + length row'.ending) after' rows rows' (lines_moved (cc) e.2 l) l' in
    cc

pub lines_join : (at : ℕ) (text : List ℕ) (rows : List Row) → Lines at text rows → joined rows ≡ text
lines_join at text rows none = refl
lines_join at text (row ∷ rows) (more after c o r l) = let e = lines_join _ after rows l in cc c.split
