-- The first answer of a row, of a subject and of the cube.
use Rattle.std.proofs.Common.{◌≡◌, ℕ, ◌-◌, ◌*◌, ◌/◌, ◌<◌, ◌≤◌, true, List, get_or, Some, None, Option, sym, refl, ap, ◌∙◌, ap₂, ⊎_elim, arith}
use Rattle.std.proofs.lemmas.Bool.{cases_eq, cases_lt, cases_Bool}
use Rattle.triples.specs.declared.triple.Triple.{Triple}
use Rattle.triples.specs.declared.question.Question.{Question}
use Rattle.triples.specs.Codes.{width, code_of, Inside}
use Rattle.triples.specs.Questions.{Fit, Nothing, Least, Next}
use Rattle.cube_store.specs.Bits.{side, row_of, bit_at, bits}
use Rattle.cube_store.specs.Laws.{bits_inside}
use Rattle.cube_store.specs.Searches.{Spans, FirstBit, Answers, First, FirstIn, OfSubject, OfRow}
use Rattle.cube_store.proofs.Marks.{bits_in}
use Rattle.cube_store.proofs.Mapped.{FirstOf}

module _ (ws : List ℕ) (q : Question) where
  -- the word w of the row, and the objects from a to below b
  module _ (s p w n a b : ℕ) (ew : w ≡ get_or ws (row_of s p) 0) (en : n ≡ q.lowest - code_of (record { subject = s; predicate = p; object = 0 })) (sp : Spans q.pattern.object n a b) where
    row_at : (u : Triple) → OfRow s p u → Inside side u → bits ws u ≡ bit_at w u.object
    row_at u r i =
        bits_in ws u i ∙ ap₂ (λ x y. bit_at (get_or ws (row_of x y) 0) u.object) r.0 r.1 ∙ ap (λ v. bit_at v u.object) (sym ew)

    -- where the bit of an answer in the row lies
    row_bit : (u : Triple) → OfRow s p u → Answers (bits ws) q u → (a ≤ u.object) × (u.object < b) × (bit_at w u.object ≡ true)
    row_bit u r h =
        let i : Inside side u = bits_inside ws u h.0 in
        let x = sp.every u.object i.2 (omega arith) h.1.1.2 in
        (x.0, x.1, sym (row_at u r i) ∙ h.0)

    pub row_none : FirstBit w a b None → FirstIn (OfRow s p) (bits ws) q None
    row_none f u r h = let x = row_bit u r h in f u.object x.0 x.1 x.2

    pub row_some : (o : ℕ) → (s < side) × Fit q.pattern.subject s → (p < side) × Fit q.pattern.predicate p → FirstBit w a b (Some o) → First (OfRow s p) (bits ws) q (record { subject = s; predicate = p; object = o })
    row_some o hs hp f =
        let t : Triple = record { subject = s; predicate = p; object = o } in
        let x = sp.fits o f.0 f.1 in
        let i : Inside side t = (hs.0, hp.0, omega (arith, sp.inside)) in
        record {
          part = (refl, refl);
          answers = (row_at t (refl, refl) i ∙ f.2, (omega arith, (hs.1, hp.1, x.1)));
          first = λ u r h. let y = row_bit u r h in let z : o ≤ u.object = f.3 u.object y.0 y.2 in omega arith;
        }

  module _ (s : ℕ) where
    pub subject_in : (n a b : ℕ) → n ≡ (q.lowest - code_of (record { subject = s; predicate = 0; object = 0 })) / width → Spans q.pattern.predicate n a b → (u : Triple) → OfSubject s u → Answers (bits ws) q u → (a ≤ u.predicate) × (u.predicate < b)
    subject_in n a b en sp u r h =
        let i : Inside side u = bits_inside ws u h.0 in
        sp.every u.predicate i.1 (omega arith) h.1.1.1

    -- no answer before the row, and the first of the row
    pub subject_some : (p : ℕ) (t : Triple) → ((u : Triple) → OfSubject s u → Answers (bits ws) q u → p ≤ u.predicate) → First (OfRow s p) (bits ws) q t → First (OfSubject s) (bits ws) q t
    subject_some p t before f =
        let i : Inside side t = bits_inside ws t f.answers.0 in
        record {
          part = f.part.0;
          answers = f.answers;
          first = λ u r h.
              let l : p ≤ u.predicate = before u r h in
              ⊎_elim (λ e. f.first u (r, e) h) (λ ne. omega (arith, f.part)) (cases_eq u.predicate p);
        }

    pub subject_first : (n a b : ℕ) (r : Option Triple) → n ≡ (q.lowest - code_of (record { subject = s; predicate = 0; object = 0 })) / width → Spans q.pattern.predicate n a b → FirstOf (λ p o. FirstIn (OfRow s p) (bits ws) q o) a b r → FirstIn (OfSubject s) (bits ws) q r
    subject_first n a b None en sp h = λ u r x. let in' = subject_in n a b en sp u r x in h u.predicate in'.0 in'.1 u (r, refl) x
    subject_first n a b (Some t) en sp h =
        subject_some h.0 t
        (λ u r x.
        ⊎_elim
        (λ lt. absurd (h.4 u.predicate (subject_in n a b en sp u r x).0 lt u (r, refl) x))
        (λ ge. ge)
        (cases_lt u.predicate h.0))
        h.3

  pub cube_in : (n a b : ℕ) → n ≡ q.lowest / (width * width) → Spans q.pattern.subject n a b → (u : Triple) → Answers (bits ws) q u → (a ≤ u.subject) × (u.subject < b)
  cube_in n a b en sp u h =
      let i : Inside side u = bits_inside ws u h.0 in
      sp.every u.subject i.0 (omega arith) h.1.1.0

  pub cube_none : ((u : Triple) → Answers (bits ws) q u → ⊥) → Nothing (bits ws) q
  cube_none f u h = ⊎_elim (λ e. absurd (f u (e, h))) (λ e. e) (cases_Bool (bits ws u))

  pub cube_some : (s : ℕ) (t : Triple) → ((u : Triple) → Answers (bits ws) q u → s ≤ u.subject) → First (OfSubject s) (bits ws) q t → Least (bits ws) q t
  cube_some s t before f =
      let i : Inside side t = bits_inside ws t f.answers.0 in
      let least : (u : Triple) → Answers (bits ws) q u → code_of t ≤ code_of u = λ u h.
      let l : s ≤ u.subject = before u h in
      ⊎_elim (λ e. f.first u e h) (λ ne. omega (arith, f.part)) (cases_eq u.subject s) in
      record {
        held = f.answers.0;
        asked = f.answers.1;
        least = λ u h l. ⊎_elim (λ e. let m : code_of t ≤ code_of u = least u (e, h) in absurd (omega arith)) (λ e. e) (cases_Bool (bits ws u));
      }

  pub cube_first : (n a b : ℕ) (r : Option Triple) → n ≡ q.lowest / (width * width) → Spans q.pattern.subject n a b → FirstOf (λ s o. FirstIn (OfSubject s) (bits ws) q o) a b r → Next (bits ws) q r
  cube_first n a b None en sp h =
      cube_none (λ u x. let in' = cube_in n a b en sp u x in h u.subject in'.0 in'.1 u refl x)
  cube_first n a b (Some t) en sp h =
      cube_some h.0 t
      (λ u x.
      ⊎_elim
      (λ lt. absurd (h.4 u.subject (cube_in n a b en sp u x).0 lt u refl x))
      (λ ge. ge)
      (cases_lt u.subject h.0))
      h.3
