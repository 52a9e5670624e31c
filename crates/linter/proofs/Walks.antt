-- The walk through a document's lines: what is known at each line's start. Assumes nothing.
use Rattle.std.proofs.Common.{◌≡◌, ℕ, ◌-◌, ◌≤◌, Bool, true, false, cond, ◌&&◌, eqb, List, [], ◌∷◌, ◌++◌, length, get_or, drop, Result, sym, refl, ap, ◌∙◌, subst, append_assoc, arith}
use Rattle.std.proofs.lemmas.List.{append-nil, length_push, drop_all}
use Rattle.std.proofs.lemmas.Bool.{and_parts}
use Rattle.grammar.specs.Readings.{Reading}
use Rattle.grammar.specs.Documents.{Row, LineAt, Lines, none, more, joined}
use Rattle.grammar.proofs.Unique.{one_lines, lines_join}
use Rattle.linter.specs.declared.tally.Survey.{Survey}
use Rattle.linter.specs.declared.verdict.Refused.{Refused}
use Rattle.linter.specs.declared.verdict.Content.{Content}
use Rattle.linter.specs.Adding.{Added}
use Rattle.linter.specs.Answers.{verdict, Tells}
use Rattle.linter.specs.Verdicts.{Verdict, Judged, Verdicts, shown, ends_in, bare_lf}
use Rattle.linter.specs.Verdicts as verdicts
use Rattle.linter.proofs.Judgements.{one_verdicts}
use Rattle.linter.proofs.Bytes.{row_of, bare_not_cr, lengths, bare_is, cr_is}
use Rattle.linter.proofs.Tallies.{tells_more}

-- lines of the text whose shown lines have these verdicts
abbrev pub Surveyed : List ℕ → List Verdict → Type 0
Surveyed text vs = (rows : List Row) × Lines 0 text rows × Verdicts (shown false rows) vs

-- at the start of a line: the survey tells of the verdicts so far, which those on the lines to come complete
pub record Walked (text : List ℕ) (pos : ℕ) (after_cr : Bool) (s : Survey) : Type 0 where
  pub seen : List Verdict
  pub tells : Tells seen s
  pub few : length seen ≤ pos
  pub within : pos ≤ length text
  pub completes : (rest : List Row) (vs : List Verdict) → Lines pos (drop pos text) rest → Verdicts (shown after_cr rest) vs → Surveyed text (seen ++ vs)

module _ (text : List ℕ) (pos : ℕ) (r : Reading) (next : ℕ) (after_cr : Bool) (s : Survey) (l : LineAt text pos r next) (w : Walked text pos after_cr s) where
  abbrev row : Row
  row = row_of pos r l.bs l.ending

  abbrev cr : Bool
  cr = eqb (get_or text (next - 1) 0) 13

  longer : (rest : List Row) → Lines next (drop next text) rest → Lines pos (drop pos text) (row ∷ rest)
  longer rest h = more (drop next text) l.cut refl l.reads (subst (λ n. Lines n (drop next text) rest) l.next_is h)

  -- past the LF of CR LF
  pub passed : true ≡ (after_cr && eqb (get_or text pos 0) 10) → Walked text next cr s
  passed half = record {
    seen = w.seen;
    tells = w.tells;
    few = omega (arith, w.few, (lengths text pos r next l).0);
    within = (lengths text pos r next l).1;
    completes = λ rest vs ls vd.
        let e : (after_cr && bare_lf row) ≡ true = ap (λ b. after_cr && b) (bare_is text pos r next l) ∙ sym half in
        let f : cr ≡ false = sym (cr_is text pos r next l) ∙ bare_not_cr pos r l.bs l.ending (and_parts after_cr (bare_lf row) e).1 in
        w.completes (row ∷ rest) vs (longer rest ls)
        (subst (λ b. Verdicts (cond b (shown false rest) (row ∷ shown (ends_in 13 row) rest)) vs) (sym e) (subst (λ b. Verdicts (shown b rest) vs) f vd));
  }

  -- past a line that is shown, with its verdict
  pub counted : (t : Survey) (v : Result Content Refused) → Judged r (verdict v) → Added v s t → false ≡ (after_cr && eqb (get_or text pos 0) 10) → Walked text next cr t
  counted t v j a whole = record {
    seen = w.seen ++ verdict v ∷ [];
    tells = tells_more w.seen s w.tells v t a;
    few = omega (arith, length_push w.seen (verdict v), w.few, (lengths text pos r next l).0);
    within = (lengths text pos r next l).1;
    completes = λ rest vs ls vd.
        let e : (after_cr && bare_lf row) ≡ false = ap (λ b. after_cr && b) (bare_is text pos r next l) ∙ sym whole in
        subst (Surveyed text) (sym (append_assoc w.seen (verdict v ∷ []) vs))
        (w.completes (row ∷ rest) (verdict v ∷ vs) (longer rest ls)
        (subst (λ b. Verdicts (cond b (shown false rest) (row ∷ shown (ends_in 13 row) rest)) (verdict v ∷ vs)) (sym e)
        (verdicts.more j (subst (λ b. Verdicts (shown b rest) vs) (sym (cr_is text pos r next l)) vd))));
  }

module _ (text : List ℕ) (pos : ℕ) (after_cr : Bool) (s : Survey) (w : Walked text pos after_cr s) (ended : length text ≤ pos) where
  surveyed : Surveyed text w.seen
  surveyed =
      subst (Surveyed text) (append-nil w.seen) (w.completes [] [] (subst (λ u. Lines pos u []) (sym (drop_all pos text ended)) none) verdicts.none)

  pub exists : (rows : List Row) × (vs : List Verdict) × Lines 0 text rows × (joined rows ≡ text) × Verdicts (shown false rows) vs × Tells vs s
  exists = let h = surveyed in (h.0, w.seen, h.1, lines_join 0 text h.0 h.1, h.2, w.tells)

  pub only : (rows : List Row) (vs : List Verdict) → Lines 0 text rows → Verdicts (shown false rows) vs → Tells vs s
  only rows vs l v =
      let h = surveyed in
      let e = one_lines 0 text h.0 rows h.1 l in
      subst (λ u. Tells u s) (one_verdicts (shown false rows) w.seen vs (subst (λ u. Verdicts (shown false u) w.seen) e h.2) v) w.tells
