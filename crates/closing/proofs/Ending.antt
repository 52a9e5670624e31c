-- A set that is grown from nothing to what a closing asks for is the closure; with no room for more, the closure exceeds the
-- capacity.
use Rattle.std.proofs.Common.{◌≡◌, ℕ, ◌+◌, ◌<◌, ◌≤◌, true, false, T, List, ◌++◌, length, map, refl, sym, ap, ◌∙◌, subst, ⊎_elim, length-append, arith}
use Rattle.std.specs.List.{AllByRecursion}
use Rattle.std.specs.Bool.{passes}
use Rattle.std.proofs.ByRecursion.{All-weaker, all-has}
use Rattle.std.proofs.lemmas.List.{length-map}
use Rattle.triples.specs.declared.triple.Triple.{Triple}
use Rattle.triples.specs.Codes.{width, Inside}
use Rattle.triples.specs.Sets.{Graph, among, adding, empty, size}
use Rattle.triples.proofs.Graphs.{adding_cases}
use Rattle.triples.proofs.Sizes.{size-adding}
use Rattle.entailment.specs.declared.regime.Regime.{Regime}
use Rattle.entailment.specs.Terms.{Term, thirty, rdf, rdfs, Begins}
use Rattle.entailment.specs.Rows.{reading, premises, conclusion}
use Rattle.entailment.specs.Starts.{start}
use Rattle.entailment.specs.Closure.{Closed, Closure, Exceeds}
use Rattle.entailment.proofs.Basics.{all-premises}
use Rattle.entailment.proofs.Counting.{passed, exceeds_by_size}
use Rattle.entailment.proofs.Saturation.{closure_exists}
use Rattle.closing.specs.declared.kinds.TermKind.{TermKind}
use Rattle.closing.specs.declared.refusal.Refusal.TheVariants.{Full}
use Rattle.closing.specs.Kinds.{kind}
use Rattle.closing.specs.Passes.{Within, Grown, Spilt}
use Rattle.closing.specs.Seeds.{HoldsClosed}
use Rattle.closing.specs.Closes.{WithinSide, Served, Refuses, ForTermsOf}
use Rattle.closing.proofs.Inclusions.{size_within}
use Rattle.closing.proofs.StartSets.{start_list, list_start}

begins : (more : List Term) → Begins (thirty ++ more)
unfolding thirty rdf rdfs
begins more = refl

thirty-length : length thirty ≡ 30
unfolding thirty
thirty-length = refl

terms-length : (more : List Term) (ks : List TermKind) → map kind more ≡ ks → 30 + length ks ≡ length (thirty ++ more)
terms-length more ks e = let a = length-append thirty more in let b = length-map more kind in let c = ap length e in omega (arith, thirty-length, a, b, c)

module _ (r : Regime) (more : List Term) (kept : List Triple) (g : Graph) where
  holds_closed : HoldsClosed r (map kind more) kept g → Closed r (thirty ++ more) kept g
  holds_closed h = record {
    starts = λ t i. passes (g t) (all-has (λ t. g t ≡ true) (start r (thirty ++ more)) t (start_list more g r h.0.1) i);
    keeps = λ t i. passes (g t) (all-has (λ t. g t ≡ true) kept t h.0.0 i);
    rows = λ row used σ p.
        passes (g (reading σ (conclusion row)))
        (h.1 row used σ (All-weaker (λ f. T (g (reading σ f))) (λ f. g (reading σ f) ≡ true) (λ f. passed (g (reading σ f))) (premises row) p));
  }

  closed_holds : Closed r (thirty ++ more) kept g → HoldsClosed r (map kind more) kept g
  closed_holds c = (
    (
      all-premises (λ t. g t ≡ true) kept (λ t i. passed (g t) (c.keeps t i)),
      list_start more g r (all-premises (λ t. g t ≡ true) (start r (thirty ++ more)) (λ t i. passed (g t) (c.starts t i))),
    ),
    λ row used σ p.
        passed (g (reading σ (conclusion row)))
        (c.rows row used σ (All-weaker (λ f. g (reading σ f) ≡ true) (λ f. T (g (reading σ f))) (λ f. passes (g (reading σ f))) (premises row) p)),
  )

from_nothing : (f other : Graph) → f ≡ empty → Within f other
from_nothing f other e t i = let no : false ≡ true = sym (ap (λ (x : Graph). x t) e) ∙ i in cc

module _ (r : Regime) (ks : List TermKind) (kept : List Triple) (n m : ℕ) (f g : Graph) (nothing : f ≡ empty)
    (few : 30 + length ks ≤ n) (narrow : n ≤ width) (inside : AllByRecursion (Inside (30 + length ks)) kept) where
  module _ (more : List Term) (e : map kind more ≡ ks) where
    within : WithinSide n (thirty ++ more) kept
    within = (
      omega (arith, terms-length more ks e),
      subst (λ (k : ℕ). AllByRecursion (Inside k) kept) (terms-length more ks e) inside,
    )

    grown_in : Grown (HoldsClosed r ks kept) f g → (set : Graph) → Closed r (thirty ++ more) kept set → Within g set
    grown_in h set c = h.sound set (subst (λ (k : List TermKind). HoldsClosed r k kept set) e (closed_holds r more kept set c)) (from_nothing f set nothing)

    is_closure : Grown (HoldsClosed r ks kept) f g → HoldsClosed r ks kept g → Closure r (thirty ++ more) kept g
    is_closure h d = record {
      closed = holds_closed r more kept g (subst (λ (k : List TermKind). HoldsClosed r k kept g) (sym e) d);
      least = λ t i set c. passes (set t) (grown_in h set c t (passed (g t) i));
    }

    by_size : (set : Graph) → Closure r (thirty ++ more) kept set → (Exceeds r (thirty ++ more) kept m → m < size set) × (m < size set → Exceeds r (thirty ++ more) kept m)
    by_size set = exceeds_by_size r (thirty ++ more) kept set m (begins more) (let l = within.0 in omega arith) within.1

  pub served : size g ≤ m → Grown (HoldsClosed r ks kept) f g → HoldsClosed r ks kept g → (k : ℕ) → k ≡ size g → ForTermsOf ks (λ ts. Served r ts kept n m g k)
  served room h d k is more e = record {
    within = within more e;
    closure = is_closure more e h d;
    room = λ x. let l = (by_size more e g (is_closure more e h d)).0 x in omega arith;
    count = is;
  }

  pub full : Grown (HoldsClosed r ks kept) f g → Spilt (HoldsClosed r ks kept) m f g → ForTermsOf ks (λ ts. Refuses r ts kept n m Full)
  full h s more e =
      let l = closure_exists r (thirty ++ more) kept (begins more) (within more e).1 in
      let set : Graph = among l.0 in
      let c : Closure r (thirty ++ more) kept set = l.2 in
      let extra : set s.extra ≡ true = s.sound set (subst (λ (k : List TermKind). HoldsClosed r k kept set) e (closed_holds r more kept set c.closed)) (from_nothing f set nothing) in
      let all : Within (adding g s.extra) set = λ t i. ⊎_elim (λ q. ap set q ∙ extra) (λ j. grown_in more e h set c.closed t j) (adding_cases g s.extra t i) in
      let one : size (adding g s.extra) ≡ size g + 1 = size-adding g s.extra s.inside s.missing in
      let larger : size (adding g s.extra) ≤ size set = size_within (adding g s.extra) set all in
      (within more e, (by_size more e set c).1 (omega (arith, s.full)))

pub outside : (ks : List TermKind) (kept : List Triple) (n : ℕ) → ((30 + length ks ≤ n) → AllByRecursion (Inside (30 + length ks)) kept → ⊥) → ForTermsOf ks (λ ts. ¬ WithinSide n ts kept)
outside ks kept n neither more e h =
    neither (omega (arith, terms-length more ks e, h.0)) (subst (λ (k : ℕ). AllByRecursion (Inside k) kept) (sym (terms-length more ks e)) h.1)
