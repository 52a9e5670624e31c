-- Lines of a derivation, a test of them, which antt computes, and what it gives: the triple of each line lies in the closure.
use Rattle.std.proofs.Common.{ℕ, Bool, ◌&&◌, T, List, [], ◌∷◌, ◌++◌, get_or, unwrap_or}
use Rattle.std.specs.List.{AllByRecursion, list_all}
use Rattle.std.proofs.ByRecursion.{All-push}
use Rattle.triples.specs.declared.triple.Triple.{Triple}
use Rattle.triples.specs.Sets.{among}
use Rattle.entailment.specs.declared.regime.Regime.{Regime}
use Rattle.entailment.specs.declared.regime.Row.{Row}
use Rattle.entailment.specs.Terms.{Term}
use Rattle.entailment.specs.Rows.{Form, triple, premises, conclusion, reading, uses}
use Rattle.entailment.specs.Starts.{start}
use Rattle.entailment.specs.Closure.{InClosure}
use Rattle.entailment.proofs.Basics.{and_left, and_right, all-by_test}
use Rattle.entailment.proofs.Among.{among-all, among-has}
use Rattle.entailment.proofs.Matching.{Known, none_known, match_form}

-- a triple of the start set, a kept one, or what a row gives, with the places of its premises among the lines before
pub data Line : Type 0 where
  from_start : Triple → Line
  from_kept : Triple → Line
  by_row : Row → List ℕ → Line

-- what is known once the forms are matched with the triples at some places
abbrev known_at : List Triple → List Form → List ℕ → Known → Known
known_at before [] ks e = e
known_at before (f ∷ fs) [] e = e
known_at before (f ∷ fs) (k ∷ ks) e = known_at before fs ks (unwrap_or (match_form f (get_or before k (triple 0 0 0)) e) e)

abbrev letters_at : List Triple → Row → List ℕ → ℕ → ℕ
letters_at before row ks n = unwrap_or (known_at before (premises row) ks none_known n) 0

abbrev line_triple : List Triple → Line → Triple
line_triple before (from_start t) = t
line_triple before (from_kept t) = t
line_triple before (by_row row ks) = reading (letters_at before row ks) (conclusion row)

module _ (r : Regime) (ts : List Term) (kept : List Triple) where
  -- whether a line stands after the triples of the lines before it
  abbrev is_line : List Triple → Line → Bool
  is_line before (from_start t) = among (start r ts) t
  is_line before (from_kept t) = among kept t
  is_line before (by_row row ks) = uses r row && list_all (λ f. among before (reading (letters_at before row ks) f)) (premises row)

  -- whether each line stands, and the triples of all of them pass p
  abbrev pub is_derivation : (List Triple → Bool) → List Triple → List Line → Bool
  is_derivation p before [] = p before
  is_derivation p before (l ∷ ls) = is_line before l && is_derivation p (before ++ line_triple before l ∷ []) ls

  abbrev Lies : Triple → Type 0
  Lies = InClosure r ts kept

  line_lies : (before : List Triple) → AllByRecursion Lies before → (l : Line) → T (is_line before l) → Lies (line_triple before l)
  line_lies before d (from_start t) h set c = c.starts t (among-has (start r ts) t h)
  line_lies before d (from_kept t) h set c = c.keeps t (among-has kept t h)
  line_lies before d (by_row row ks) h set c =
      let σ : ℕ → ℕ = letters_at before row ks in
      c.rows row (and_left (uses r row) _ h) σ
      (all-by_test (λ f. T (set (reading σ f))) (λ f. among before (reading σ f)) (λ f m. among-all Lies before d (reading σ f) m set c) (premises row) (and_right (uses r row) _ h))

  pub derivation_lies : (p : List Triple → Bool) (before : List Triple) → AllByRecursion Lies before → (ls : List Line) → T (is_derivation p before ls)
      → (all : List Triple) × AllByRecursion Lies all × T (p all)
  derivation_lies p before d [] h = (before, d, h)
  derivation_lies p before d (l ∷ ls) h =
      derivation_lies p (before ++ line_triple before l ∷ []) (All-push Lies before (line_triple before l) d (line_lies before d l (and_left (is_line before l) _ h))) ls (and_right (is_line before l) _ h)
