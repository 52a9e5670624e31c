-- The turns of the search: from what is so before to what is so after.
use Rattle.std.proofs.Common.{◌≡◌, ℕ, ◌<◌, ◌≤◌, true, ◌⊎◌, List, [], ◌∷◌, length, Some, None, Option, refl, sym, ap, ◌∙◌, subst, inl, inr, ⊎_elim, arith}
use Rattle.std.proofs.lemmas.Bool.{both_ways, cases_lt}
use Rattle.triples.specs.declared.triple.Triple.{Triple}
use Rattle.triples.specs.declared.question.Question.{Question}
use Rattle.triples.specs.Codes.{width, codes, code_of, Inside}
use Rattle.triples.specs.Sets.{Graph}
use Rattle.triples.specs.Questions.{Asked, Next}
use Rattle.triples.proofs.Triples.{code_only, code_below, inside-more}
use Rattle.walks.specs.Steps.{from_start, past}
use Rattle.entailment.specs.declared.goal.GoalRow.{GoalRow}
use Rattle.entailment.specs.Entailment.{put}
use Rattle.embedding.specs.declared.search.Choice.{Choice}
use Rattle.embedding.specs.declared.search.Place.{Place}
use Rattle.embedding.specs.Embeddings.{PutsRows}
use Rattle.embedding.specs.Bound.{Bound, pattern, lowest, NoneBetween}
use Rattle.embedding.specs.Searching.{Agrees, row_at, Hopeful, Parted, Keeps, Places}
use Rattle.embedding.proofs.Meeting.{some_only, none_some}
use Rattle.embedding.proofs.Fitting.{held_at, fits_row, mixed, mixed_agrees, mixed_rows}
use Rattle.embedding.proofs.Openness.{open_rows_le}
use Rattle.embedding.proofs.Remaining.{Later}
use Rattle.embedding.proofs.Standing.{Stands, Reaches, Ready, Going, State}

-- what next answers is held
pub next_held : (set : Graph) (q : Question) (o : Option Triple) → Next set q o → (t : Triple) → o ≡ Some t → set t ≡ true
next_held set q None h t e = none_some t e
next_held set q (Some u) h t e = ap set (sym (some_only u t e)) ∙ h.held

-- what comes after a triple is later
pub next_later : (set : Graph) (t : Triple) (r : GoalRow) (bs : Bound) (o : Option Triple) → Next set (past t (pattern bs r)) o → Later (code_of t) o
next_later set t r bs None h = tt
next_later set t r bs (Some u) h = omega (arith, h.asked.0)

module _ (n : ℕ) (set : Graph) (goal : List GoalRow) where
  -- what answers a question is not before the answer
  next_reaches : (q : Question) (o : Option Triple) → Next set q o → (u : Triple) → set u ≡ true → Asked q u → Reaches n set goal o u
  next_reaches q None h u held asked = both_ways (set u) (h u asked) held
  next_reaches q (Some t) h u held asked =
      ⊎_elim (λ lt. absurd (both_ways (set u) (h.least u asked lt) held)) (λ le. le) (cases_lt (code_of u) (code_of t))

  -- the place that the search is at
  pub going : (bs : Bound) (cs : List Choice) (place : Option Place) (p : Place) (o : Option Triple) → place ≡ Some p → p.candidate ≡ o → State n set goal bs cs place → Going n set goal bs cs p.row o
  going bs cs place p o e f s =
      subst (λ (q : Option Triple). Going n set goal bs cs p.row q) f (subst (State n set goal bs cs) e s)

  -- the search begins with nothing bound
  pub begin : Hopeful set goal [] → Ready n set goal [] []
  begin hope = record {
    sourced = λ k w h. none_some w h;
    hopeful = hope;
    depth = omega (arith, open_rows_le [] goal);
    path = tt;
    ahead = λ m rows. (m, rows, inl (λ k w h. none_some w h));
  }

  -- the row that is next
  pub arrive : (bs : Bound) (cs : List Choice) (p : Option Place) → Ready n set goal bs cs → Places set goal bs p → State n set goal bs cs p
  arrive bs cs None r h = record { closed = h; hopeful = r.hopeful; sourced = r.sourced }
  arrive bs cs (Some p) r h =
      let row = row_at goal p.row in
      record {
        stands = record { sourced = r.sourced; hopeful = r.hopeful; within = h.0; opened = h.1; depth = r.depth };
        path = r.path;
        current = next_held set (from_start (pattern bs row)) p.candidate h.2;
        ahead = λ m rows.
            let s = r.ahead m rows in (
              s.0,
              s.1,
              ⊎_elim
                  (λ a. inl (a, next_reaches (from_start (pattern bs row)) p.candidate h.2 (put s.0 row) (held_at bs s.0 a set goal p.row h.0 s.1) (omega arith, fits_row bs s.0 a row)))
                  inr s.2,
            );
      }

  -- where the rows part, no earlier choice need be taken back
  pub part : (bs : Bound) (cs : List Choice) → Ready n set goal bs cs → Parted goal bs → Ready n set goal bs []
  part bs cs r parted = record {
    sourced = r.sourced;
    hopeful = r.hopeful;
    depth = omega (arith, open_rows_le bs goal);
    path = tt;
    ahead = λ m rows. (mixed bs m, mixed_rows set bs m goal parted r.hopeful rows, inl (mixed_agrees bs m));
  }

  pub kept : (bs : Bound) (c : Choice) (cs ds : List Choice) → Ready n set goal bs (c ∷ cs) → Keeps goal bs c cs ds → Ready n set goal bs ds
  kept bs c cs ds r keeps =
      ⊎_elim
      (λ e. subst (Ready n set goal bs) (sym e) r)
      (λ p. subst (Ready n set goal bs) (sym p.0) (part bs (c ∷ cs) r p.1))
      keeps

  -- the triple u, as m makes the row, is past t: there is a later candidate
  past_reaches : (bs : Bound) (i : ℕ) (t : Triple) (o : Option Triple) → i < length goal → Next set (past t (pattern bs (row_at goal i))) o → (m : ℕ → ℕ) → PutsRows set goal m → Agrees bs m
      → code_of t < code_of (put m (row_at goal i)) → Reaches n set goal o (put m (row_at goal i))
  past_reaches bs i t o low next m rows a lt =
      let row = row_at goal i in
      next_reaches (past t (pattern bs row)) o next (put m row) (held_at bs m a set goal i low rows) (omega arith, fits_row bs m a row)

  -- the last choice is taken back
  pub back : (bs : Bound) (c : Choice) (cs : List Choice) (i : ℕ) (o : Option Triple) → Going n set goal bs (c ∷ cs) i None → Next set (past c.triple (pattern (lowest c.mark bs) (row_at goal c.row))) o
      → Going n set goal (lowest c.mark bs) cs c.row o
  back bs c cs i o g next =
      let ds : Bound = lowest c.mark bs in
      let s : Stands n set goal ds (length cs) c.row = g.path.1 in
      record {
        stands = s;
        path = g.path.2;
        current = next_held set (past c.triple (pattern ds (row_at goal c.row))) o next;
        ahead = λ m rows.
            let h = g.ahead m rows in (
              h.0,
              h.1,
              ⊎_elim
                  (λ d. absurd d.1)
                  (λ b. ⊎_elim (λ d. inl (d.0, past_reaches ds c.row c.triple o s.within next h.0 h.1 d.0 d.1)) inr b)
                  h.2,
            );
      }

  -- no choice is left to take back
  pub stuck : (bs : Bound) (i : ℕ) → Going n set goal bs [] i None → (m : ℕ → ℕ) → PutsRows set goal m → ⊥
  stuck bs i g m rows = ⊎_elim (λ d. d.1) (λ b. b) (g.ahead m rows).2

  module _ (lawful : (t : Triple) → set t ≡ true → Inside n t) (narrow : n ≤ width) where
    inside : (t : Triple) → set t ≡ true → Inside width t
    inside t h = inside-more n width t narrow (lawful t h)

    pub current_below : (bs : Bound) (cs : List Choice) (i : ℕ) (t : Triple) → Going n set goal bs cs i (Some t) → code_of t < codes
    current_below bs cs i t g = code_below t (inside t (g.current t refl))

    -- a map that is not before the candidate makes the row the candidate, or a later triple
    pub this_or_later : (bs : Bound) (i : ℕ) (t : Triple) (m : ℕ → ℕ) → i < length goal → set t ≡ true → PutsRows set goal m → Agrees bs m → code_of t ≤ code_of (put m (row_at goal i))
        → (put m (row_at goal i) ≡ t) ⊎ (code_of t < code_of (put m (row_at goal i)))
    this_or_later bs i t m low held rows a le =
        let row = row_at goal i in
        ⊎_elim
        inr
        (λ ge. inl (code_only (put m row) t (inside (put m row) (held_at bs m a set goal i low rows)) (inside t held) (omega arith)))
        (cases_lt (code_of t) (code_of (put m row)))

    -- the candidate cannot be, nor what is later, but not than u
    pub on : (bs : Bound) (cs : List Choice) (i : ℕ) (t : Triple) (o : Option Triple) → Going n set goal bs cs i (Some t) → ((m : ℕ → ℕ) → Agrees bs m → PutsRows set goal m → put m (row_at goal i) ≡ t → ⊥)
        → (u : Triple) → NoneBetween (row_at goal i) t u → Next set (past u (pattern bs (row_at goal i))) o → Going n set goal bs cs i o
    on bs cs i t o g fails u none next = record {
      stands = g.stands;
      path = g.path;
      current = next_held set (past u (pattern bs (row_at goal i))) o next;
      ahead = λ m rows.
          let h = g.ahead m rows in (
            h.0,
            h.1,
            ⊎_elim
                (λ d. ⊎_elim
                (λ e. absurd (fails h.0 d.0 h.1 e))
                (λ lt. inl (d.0, past_reaches bs i u o g.stands.within next h.0 h.1 d.0 (none h.0 (inside (put h.0 (row_at goal i)) (held_at bs h.0 d.0 set goal i g.stands.within h.1)) lt)))
                (this_or_later bs i t h.0 g.stands.within (g.current t refl) h.1 d.0 d.1))
                inr
                h.2,
          );
    }
