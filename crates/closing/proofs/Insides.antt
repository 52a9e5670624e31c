-- What is grown from triples of the first terms speaks of these terms only.
use Rattle.std.proofs.Common.{◌≡◌, ℕ, ◌+◌, ◌<◌, ◌≤◌, true, false, ◌&&◌, nat_lt, List, length, sym, ap, ◌∙◌, lit<, arith}
use Rattle.std.specs.List.{AllByRecursion}
use Rattle.std.proofs.ByRecursion.{All-weaker}
use Rattle.std.proofs.lemmas.Bool.{and_from, and_parts, ltb-true, lt-ltb}
use Rattle.triples.specs.declared.triple.Triple.{Triple}
use Rattle.triples.specs.Codes.{Inside}
use Rattle.triples.specs.Sets.{Graph, empty}
use Rattle.entailment.specs.declared.regime.Regime.{Regime}
use Rattle.entailment.specs.declared.regime.Regime.TheVariants.{Simple, Rdf, Rdfs}
use Rattle.entailment.specs.Rows.{triple, reading, premises}
use Rattle.entailment.specs.Starts.{rdf_fixed, rdfs_fixed}
use Rattle.closing.specs.declared.kinds.TermKind.{TermKind}
use Rattle.closing.specs.declared.starts.Which.{Which}
use Rattle.closing.specs.declared.starts.Which.TheVariants.{Names, Positions}
use Rattle.closing.specs.Passes.{Grown, OfFirst, RowsClosed, HoldsAll}
use Rattle.closing.specs.Seeds.{HoldsEach, HoldsRdf, HoldsRdfs, HoldsStart, HoldsSeed}
use Rattle.closing.proofs.Conclusions.{reading-inside}
use Rattle.closing.proofs.KindsOfTerms.{all_kinds-length}
use Rattle.closing.proofs.FixedTriples.{rdf_fixed-inside, rdfs_fixed-inside}

-- all triples of the first n terms
abbrev whole : ℕ → Graph
whole n t = nat_lt t.subject n && (nat_lt t.predicate n && nat_lt t.object n)

of_whole : (n : ℕ) (t : Triple) → whole n t ≡ true → Inside n t
of_whole n t h =
    let a = and_parts (nat_lt t.subject n) (nat_lt t.predicate n && nat_lt t.object n) h in
    let b = and_parts (nat_lt t.predicate n) (nat_lt t.object n) a.1 in
    (ltb-true t.subject n a.0, ltb-true t.predicate n b.0, ltb-true t.object n b.1)

in_whole : (n : ℕ) (t : Triple) → Inside n t → whole n t ≡ true
in_whole n t h = and_from (nat_lt t.subject n) _ (lt-ltb t.subject n h.0) (and_from (nat_lt t.predicate n) (nat_lt t.object n) (lt-ltb t.predicate n h.1) (lt-ltb t.object n h.2))

whole-closed : (r : Regime) (n : ℕ) → 30 ≤ n → RowsClosed r (whole n)
whole-closed r n e row used σ h = in_whole n _ (reading-inside n e row σ (All-weaker (λ f. whole n (reading σ f) ≡ true) (λ f. Inside n (reading σ f)) (λ f. of_whole n (reading σ f)) (premises row) h))

pub stays_inside : (r : Regime) (n : ℕ) (f g : Graph) → 30 ≤ n → Grown (RowsClosed r) f g → OfFirst n f → OfFirst n g
stays_inside r n f g e h i t j = of_whole n t (h.sound (whole n) (whole-closed r n e) (λ u k. in_whole n u (i u k)) t j)

module _ (ks : List TermKind) where
  fixed_whole : (ts : List Triple) → AllByRecursion (Inside (30 + length ks)) ts → HoldsAll ts (whole (30 + length ks))
  fixed_whole ts = All-weaker (Inside (30 + length ks)) (λ t. whole (30 + length ks) t ≡ true) (in_whole (30 + length ks)) ts

  each_whole : (w : Which) (p o : ℕ) → p < 30 → o < 30 → HoldsEach w p o ks (whole (30 + length ks))
  each_whole w p o hp ho k l picked = in_whole (30 + length ks) (triple k p o) (omega (arith, all_kinds-length ks, l), omega arith, omega arith)

  few : 30 ≤ 30 + length ks
  few = omega arith

  rdf_whole : HoldsRdf ks (whole (30 + length ks))
  rdf_whole = (fixed_whole rdf_fixed (rdf_fixed-inside (30 + length ks) few), each_whole Positions _ _ (lit< tt) (lit< tt))

  rdfs_whole : HoldsRdfs ks (whole (30 + length ks))
  rdfs_whole = (
    fixed_whole rdfs_fixed (rdfs_fixed-inside (30 + length ks) few),
    each_whole Names _ _ (lit< tt) (lit< tt),
    each_whole Positions _ _ (lit< tt) (lit< tt),
    each_whole Positions _ _ (lit< tt) (lit< tt),
    each_whole Positions _ _ (lit< tt) (lit< tt),
  )

  start_whole : (r : Regime) → HoldsStart r ks (whole (30 + length ks))
  start_whole Simple = tt
  start_whole Rdf = rdf_whole
  start_whole Rdfs = (rdf_whole, rdfs_whole)

  pub seed-inside : (r : Regime) (kept : List Triple) (f g : Graph) → f ≡ empty → AllByRecursion (Inside (30 + length ks)) kept → Grown (HoldsSeed r ks kept) f g → OfFirst (30 + length ks) g
  seed-inside r kept f g nothing inside h t j =
      of_whole (30 + length ks) t
      (h.sound (whole (30 + length ks)) (fixed_whole kept inside, start_whole r)
      (λ u k. let wrong : false ≡ true = sym (ap (λ (x : Graph). x u) nothing) ∙ k in cc) t j)
