-- The steps are the rows: what follows from premises that fit lies in each set closed under the row, and when each pair that
-- fits is done, so is each reading.
use Rattle.std.proofs.Common.{lit<, ◌≡◌, ℕ, ◌<◌, ◌≤◌, true, [], ◌∷◌, get_or, refl, sym, ap, ◌∙◌, arith, Some, None, subst}
use Rattle.std.specs.List.{AllByRecursion}
use Rattle.triples.specs.declared.triple.Triple.{Triple}
use Rattle.triples.specs.Codes.{width, code_of, Inside}
use Rattle.triples.specs.Sets.{Graph}
use Rattle.triples.specs.Questions.{Fits}
use Rattle.triples.proofs.Triples.{triple_eq, code_only}
use Rattle.entailment.specs.declared.regime.Row.{Row}
use Rattle.entailment.specs.declared.regime.Row.TheVariants.{RdfD2, Rdfs2, Rdfs3, Rdfs4a, Rdfs4b, Rdfs5, Rdfs6, Rdfs7, Rdfs8, Rdfs9, Rdfs10, Rdfs11, Rdfs12, Rdfs13}
use Rattle.entailment.specs.Vocabulary.{#type, #Property, #Class, #Datatype, #CMP, #domain, #range, #subClassOf, #subPropertyOf}
use Rattle.entailment.specs.Rows.{triple, reading, premises, conclusion}
use Rattle.closing.specs.declared.rows.Part.{Part}
use Rattle.closing.specs.declared.rows.Part.TheVariants.{Subject, Predicate, Object}
use Rattle.closing.specs.Steps.{last_alike, first_of, Partner, conclusion_of, part_of, term_at}
use Rattle.closing.specs.Passes.{RowFrom, RowClosed, PartnersFrom, TermFrom, OfFirst}

-- a conclusion has no numbers but its premises' and the vocabulary's
pub conclusion-inside : (n : ℕ) → 30 ≤ n → (t u : Triple) → Inside n t → Inside n u → (row : Row) → Inside n (conclusion_of row t u)
conclusion-inside n w t u i j RdfD2 = (omega arith, omega arith, omega arith)
conclusion-inside n w t u i j Rdfs2 = (omega arith, omega arith, omega arith)
conclusion-inside n w t u i j Rdfs3 = (omega arith, omega arith, omega arith)
conclusion-inside n w t u i j Rdfs4a = (omega arith, omega arith, omega arith)
conclusion-inside n w t u i j Rdfs4b = (omega arith, omega arith, omega arith)
conclusion-inside n w t u i j Rdfs5 = (omega arith, omega arith, omega arith)
conclusion-inside n w t u i j Rdfs6 = (omega arith, omega arith, omega arith)
conclusion-inside n w t u i j Rdfs7 = (omega arith, omega arith, omega arith)
conclusion-inside n w t u i j Rdfs8 = (omega arith, omega arith, omega arith)
conclusion-inside n w t u i j Rdfs9 = (omega arith, omega arith, omega arith)
conclusion-inside n w t u i j Rdfs10 = (omega arith, omega arith, omega arith)
conclusion-inside n w t u i j Rdfs11 = (omega arith, omega arith, omega arith)
conclusion-inside n w t u i j Rdfs12 = (omega arith, omega arith, omega arith)
conclusion-inside n w t u i j Rdfs13 = (omega arith, omega arith, omega arith)

-- what the seven letters stand for
abbrev letters : ℕ → ℕ → ℕ → ℕ → ℕ → ℕ → ℕ → ℕ → ℕ
letters a b c d e x y k = get_or (a ∷ b ∷ c ∷ d ∷ e ∷ x ∷ y ∷ []) k 0

as_triple : (f : Graph) (t : Triple) (s p o : ℕ) → t.subject ≡ s → t.predicate ≡ p → t.object ≡ o → f t ≡ true → f (triple s p o) ≡ true
as_triple f t s p o es ep eo h = sym (ap f (triple_eq t (triple s p o) es ep eo)) ∙ h

pub concluded : (row : Row) (t u : Triple) → Fits (first_of row) t → Partner row t u → (f : Graph) → RowClosed row f → f t ≡ true → f u ≡ true → f (conclusion_of row t u) ≡ true
concluded RdfD2 t u fit par f c h i = c (letters t.predicate 0 0 0 0 t.subject t.object) (as_triple f t _ _ _ refl refl refl h, tt)
concluded Rdfs2 t u fit par f c h i = c (letters t.subject 0 t.object 0 0 u.subject u.object) (as_triple f t _ _ _ refl fit.1 refl h, (as_triple f u _ _ _ refl par.1 refl i, tt))
concluded Rdfs3 t u fit par f c h i = c (letters t.subject 0 t.object 0 0 u.subject u.object) (as_triple f t _ _ _ refl fit.1 refl h, (as_triple f u _ _ _ refl par.1 refl i, tt))
concluded Rdfs4a t u fit par f c h i = c (letters t.predicate 0 0 0 0 t.subject t.object) (as_triple f t _ _ _ refl refl refl h, tt)
concluded Rdfs4b t u fit par f c h i = c (letters t.predicate 0 0 0 0 t.subject t.object) (as_triple f t _ _ _ refl refl refl h, tt)
concluded Rdfs5 t u fit par f c h i = c (letters t.subject t.object u.object 0 0 0 0) (as_triple f t _ _ _ refl fit.1 refl h, (as_triple f u _ _ _ par.0 (par.1 ∙ fit.1) refl i, tt))
concluded Rdfs6 t u fit par f c h i = c (letters t.subject 0 0 0 0 0 0) (as_triple f t _ _ _ refl fit.1 fit.2 h, tt)
concluded Rdfs7 t u fit par f c h i = c (letters t.subject t.object 0 0 0 u.subject u.object) (as_triple f t _ _ _ refl fit.1 refl h, (as_triple f u _ _ _ refl par.1 refl i, tt))
concluded Rdfs8 t u fit par f c h i = c (letters 0 0 t.subject 0 0 0 0) (as_triple f t _ _ _ refl fit.1 fit.2 h, tt)
concluded Rdfs9 t u fit par f c h i = c (letters 0 0 t.subject t.object 0 u.subject 0) (as_triple f t _ _ _ refl fit.1 refl h, (as_triple f u _ _ _ refl par.1 par.2 i, tt))
concluded Rdfs10 t u fit par f c h i = c (letters 0 0 t.subject 0 0 0 0) (as_triple f t _ _ _ refl fit.1 fit.2 h, tt)
concluded Rdfs11 t u fit par f c h i = c (letters 0 0 t.subject t.object u.object 0 0) (as_triple f t _ _ _ refl fit.1 refl h, (as_triple f u _ _ _ par.0 (par.1 ∙ fit.1) refl i, tt))
concluded Rdfs12 t u fit par f c h i = c (letters t.subject 0 0 0 0 0 0) (as_triple f t _ _ _ refl fit.1 fit.2 h, tt)
concluded Rdfs13 t u fit par f c h i = c (letters 0 0 t.subject 0 0 0 0) (as_triple f t _ _ _ refl fit.1 fit.2 h, tt)

-- each first premise is done
abbrev pub FirstsFrom : Row → Graph → Graph → Type 0
FirstsFrom row f g = (t : Triple) → f t ≡ true → Fits (first_of row) t → PartnersFrom row t f g

pub row_from : (row : Row) (f g : Graph) → FirstsFrom row f g → RowFrom row f g
row_from RdfD2 f g d σ h = d (triple (σ 5) (σ 0) (σ 6)) h.0 (tt, tt, tt) _ h.0 refl
row_from Rdfs2 f g d σ h = d (triple (σ 0) #domain (σ 2)) h.0 (tt, refl, tt) (triple (σ 5) (σ 0) (σ 6)) h.1.0 (tt, refl, tt)
row_from Rdfs3 f g d σ h = d (triple (σ 0) #range (σ 2)) h.0 (tt, refl, tt) (triple (σ 5) (σ 0) (σ 6)) h.1.0 (tt, refl, tt)
row_from Rdfs4a f g d σ h = d (triple (σ 5) (σ 0) (σ 6)) h.0 (tt, tt, tt) _ h.0 refl
row_from Rdfs4b f g d σ h = d (triple (σ 5) (σ 0) (σ 6)) h.0 (tt, tt, tt) _ h.0 refl
row_from Rdfs5 f g d σ h = d (triple (σ 0) #subPropertyOf (σ 1)) h.0 (tt, refl, tt) (triple (σ 1) #subPropertyOf (σ 2)) h.1.0 (refl, refl, tt)
row_from Rdfs6 f g d σ h = d (triple (σ 0) #type #Property) h.0 (tt, refl, refl) _ h.0 refl
row_from Rdfs7 f g d σ h = d (triple (σ 0) #subPropertyOf (σ 1)) h.0 (tt, refl, tt) (triple (σ 5) (σ 0) (σ 6)) h.1.0 (tt, refl, tt)
row_from Rdfs8 f g d σ h = d (triple (σ 2) #type #Class) h.0 (tt, refl, refl) _ h.0 refl
row_from Rdfs9 f g d σ h = d (triple (σ 2) #subClassOf (σ 3)) h.0 (tt, refl, tt) (triple (σ 5) #type (σ 2)) h.1.0 (tt, refl, refl)
row_from Rdfs10 f g d σ h = d (triple (σ 2) #type #Class) h.0 (tt, refl, refl) _ h.0 refl
row_from Rdfs11 f g d σ h = d (triple (σ 2) #subClassOf (σ 3)) h.0 (tt, refl, tt) (triple (σ 3) #subClassOf (σ 4)) h.1.0 (refl, refl, tt)
row_from Rdfs12 f g d σ h = d (triple (σ 0) #type #CMP) h.0 (tt, refl, refl) _ h.0 refl
row_from Rdfs13 f g d σ h = d (triple (σ 2) #type #Datatype) h.0 (tt, refl, refl) _ h.0 refl

-- so a reading of the conclusion is inside where those of the premises are
pub reading-inside : (n : ℕ) → 30 ≤ n → (row : Row) (σ : ℕ → ℕ) → AllByRecursion (λ p. Inside n (reading σ p)) (premises row) → Inside n (reading σ (conclusion row))
reading-inside n w RdfD2 σ h = (omega arith, omega arith, omega arith)
reading-inside n w Rdfs2 σ h = (omega arith, omega arith, omega arith)
reading-inside n w Rdfs3 σ h = (omega arith, omega arith, omega arith)
reading-inside n w Rdfs4a σ h = (omega arith, omega arith, omega arith)
reading-inside n w Rdfs4b σ h = (omega arith, omega arith, omega arith)
reading-inside n w Rdfs5 σ h = (omega arith, omega arith, omega arith)
reading-inside n w Rdfs6 σ h = (omega arith, omega arith, omega arith)
reading-inside n w Rdfs7 σ h = (omega arith, omega arith, omega arith)
reading-inside n w Rdfs8 σ h = (omega arith, omega arith, omega arith)
reading-inside n w Rdfs9 σ h = (omega arith, omega arith, omega arith)
reading-inside n w Rdfs10 σ h = (omega arith, omega arith, omega arith)
reading-inside n w Rdfs11 σ h = (omega arith, omega arith, omega arith)
reading-inside n w Rdfs12 σ h = (omega arith, omega arith, omega arith)
reading-inside n w Rdfs13 σ h = (omega arith, omega arith, omega arith)

-- a row whose conclusion speaks of one part has one premise
only_premise : (row : Row) (part : Part) → part_of row ≡ Some part → (t u : Triple) → Partner row t u → u ≡ t
only_premise RdfD2 part e t u par = par
only_premise Rdfs4a part e t u par = par
only_premise Rdfs4b part e t u par = par
only_premise row part e t u par = let wrong : None ≡ Some part = e in cc

-- all terms done are all premises done
pub terms_do : (row : Row) (part : Part) (n : ℕ) (f g : Graph) → part_of row ≡ Some part → OfFirst n f → ((k : ℕ) → k < n → TermFrom row part k f g) → FirstsFrom row f g
terms_do row part n f g e inside done t i fit u j par =
    subst (λ x. g (conclusion_of row t x) ≡ true) (sym (only_premise row part e t u par)) (done (term_at part t) (term_below part n t (inside t i)) t i refl)
  where
    term_below : (p : Part) (n : ℕ) (t : Triple) → Inside n t → term_at p t < n
    term_below Subject n t h = h.0
    term_below Predicate n t h = h.1
    term_below Object n t h = h.2

-- second premises up to the last that is alike give one conclusion
pub alike_concludes : (row : Row) (t u v : Triple) → Inside width u → Inside width v → Partner row t u → Partner row t v → code_of u ≤ code_of v → code_of v ≤ code_of (last_alike row u) → conclusion_of row t v ≡ conclusion_of row t u
alike_concludes Rdfs2 t u v i j pu pv l m = triple_eq (conclusion_of Rdfs2 t v) (conclusion_of Rdfs2 t u) (omega arith) refl refl
alike_concludes row t u v i j pu pv l m = ap (conclusion_of row t) (code_only v u j i (omega arith))

-- which is no earlier
pub last_later : (row : Row) (u : Triple) → Inside width u → code_of u ≤ code_of (last_alike row u)
last_later Rdfs2 u i = omega arith
last_later row u i = omega arith

pub last_inside : (row : Row) (u : Triple) → Inside width u → Inside width (last_alike row u)
last_inside Rdfs2 u i = (i.0, i.1, lit< tt)
last_inside row u i = i
