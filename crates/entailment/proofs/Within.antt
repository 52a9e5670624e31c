-- The triples of terms are a closed set, so the closure speaks only of terms of the book.
use Rattle.std.proofs.Common.{◌≡◌, ℕ, ◌<◌, ◌&&◌, T, ltb, ltb→lt, lt→ltb, List, ◌++◌, length, drop, sym, ap, ◌∙◌, subst, take-append-drop}
use Rattle.std.specs.List.{AllByRecursion}
use Rattle.std.proofs.ByRecursion.{All-weaker, all-has}
use Rattle.triples.specs.declared.triple.Triple.{Triple}
use Rattle.triples.specs.Sets.{Graph}
use Rattle.entailment.specs.declared.regime.Regime.{Regime}
use Rattle.entailment.specs.declared.regime.Row.{Row}
use Rattle.entailment.specs.declared.regime.Row.TheVariants.{RdfD2, Rdfs2, Rdfs3, Rdfs4a, Rdfs4b, Rdfs5, Rdfs6, Rdfs7, Rdfs8, Rdfs9, Rdfs10, Rdfs11, Rdfs12, Rdfs13}
use Rattle.entailment.specs.Terms.{Term, is_name, Begins, rdf, rdfs, thirty}
use Rattle.entailment.specs.Vocabulary.{#type, #Property, #Resource, #Literal, #subClassOf, #subPropertyOf, #member}
use Rattle.entailment.specs.Rows.{premises, conclusion, reading}
use Rattle.entailment.specs.Starts.{start}
use Rattle.entailment.specs.Closure.{Closed, InClosure}
use Rattle.entailment.specs.Entailment.{OfTerms}
use Rattle.entailment.specs.Laws.{StaysWithinTerms}
use Rattle.entailment.proofs.Basics.{and_left, and_right, and_both}
use Rattle.entailment.proofs.Names.{Named, start-named, name-within}

-- terms that begin with the thirty are the thirty and more
pub begun : (ts : List Term) → Begins ts → thirty ++ drop 30 ts ≡ ts
begun ts b = ap (λ (l : List Term). l ++ drop 30 ts) (sym b) ∙ take-append-drop 30 ts

module _ (more : List Term) where
  abbrev ts : List Term
  ts = thirty ++ more

  named-within : (t : Triple) → Named ts t → OfTerms ts t
  named-within t n = (name-within ts t.subject n.0, name-within ts t.predicate n.1, name-within ts t.object n.2)

  fixed : (n : ℕ) → T (is_name ts n) → n < length ts
  fixed n h = name-within ts n h

  row-within : (row : Row) (σ : ℕ → ℕ) → AllByRecursion (λ f. OfTerms ts (reading σ f)) (premises row) → OfTerms ts (reading σ (conclusion row))
  unfolding thirty rdf rdfs
  row-within RdfD2 σ h = (h.0.1, fixed #type tt, fixed #Property tt)
  row-within Rdfs2 σ h = (h.1.0.0, fixed #type tt, h.0.2)
  row-within Rdfs3 σ h = (h.1.0.2, fixed #type tt, h.0.2)
  row-within Rdfs4a σ h = (h.0.0, fixed #type tt, fixed #Resource tt)
  row-within Rdfs4b σ h = (h.0.2, fixed #type tt, fixed #Resource tt)
  row-within Rdfs5 σ h = (h.0.0, fixed #subPropertyOf tt, h.1.0.2)
  row-within Rdfs6 σ h = (h.0.0, fixed #subPropertyOf tt, h.0.0)
  row-within Rdfs7 σ h = (h.1.0.0, h.0.2, h.1.0.2)
  row-within Rdfs8 σ h = (h.0.0, fixed #subClassOf tt, fixed #Resource tt)
  row-within Rdfs9 σ h = (h.1.0.0, fixed #type tt, h.0.2)
  row-within Rdfs10 σ h = (h.0.0, fixed #subClassOf tt, h.0.0)
  row-within Rdfs11 σ h = (h.0.0, fixed #subClassOf tt, h.1.0.2)
  row-within Rdfs12 σ h = (h.0.0, fixed #subPropertyOf tt, fixed #member tt)
  row-within Rdfs13 σ h = (h.0.0, fixed #subClassOf tt, fixed #Literal tt)

  -- the triples of terms, as a set
  abbrev pub of_terms : Graph
  of_terms t = ltb t.subject (length ts) && (ltb t.predicate (length ts) && ltb t.object (length ts))

  into : (t : Triple) → OfTerms ts t → T (of_terms t)
  into t h = and_both _ _ (lt→ltb t.subject (length ts) h.0) (and_both _ _ (lt→ltb t.predicate (length ts) h.1) (lt→ltb t.object (length ts) h.2))

  pub out : (t : Triple) → T (of_terms t) → OfTerms ts t
  out t h =
      let s = ltb t.subject (length ts) in
      let p = ltb t.predicate (length ts) in
      let o = ltb t.object (length ts) in
      let r = and_right s (p && o) h in
      (ltb→lt t.subject (length ts) (and_left s (p && o) h), ltb→lt t.predicate (length ts) (and_left p o r), ltb→lt t.object (length ts) (and_right p o r))

  of_terms-closed : (r : Regime) (kept : List Triple) → AllByRecursion (OfTerms ts) kept → Closed r ts kept of_terms
  of_terms-closed r kept k =
      record {
        starts = λ t m. into t (all-has (OfTerms ts) (start r ts) t (All-weaker (Named ts) (OfTerms ts) named-within (start r ts) (start-named more r)) m);
        keeps = λ t m. into t (all-has (OfTerms ts) kept t k m);
        rows = λ row u σ h. into (reading σ (conclusion row)) (row-within row σ (All-weaker (λ f. T (of_terms (reading σ f))) (λ f. OfTerms ts (reading σ f)) (λ f x. out (reading σ f) x) (premises row) h));
      }

Within : List Term → Type 0
Within ts = (r : Regime) (kept : List Triple) → AllByRecursion (OfTerms ts) kept → (t : Triple) → InClosure r ts kept t → OfTerms ts t

within : (more : List Term) → Within (thirty ++ more)
unfolding Within
within more r kept k t h = out more t (h (of_terms more) (of_terms-closed more r kept k))

pub stays_within_terms : StaysWithinTerms
unfolding Within
stays_within_terms r ts kept b k t h = subst Within (begun ts b) (within (drop 30 ts)) r kept k t h
