-- What a set must hold, told by the kinds of the terms, is the start set of every book with terms of these kinds.
use Rattle.std.proofs.Common.{◌≡◌, ℕ, zero, suc, ◌+◌, ◌<◌, Bool, true, false, cond, T, List, [], ◌∷◌, ◌++◌, length, get_or, map, sym, ap, ◌∙◌, subst, suc-le-suc, le_of_suc-le-suc, zero-le, arith}
use Rattle.std.specs.List.{AllByRecursion}
use Rattle.std.specs.Bool.{passes}
use Rattle.std.proofs.ByRecursion.{All-append, All-map}
use Rattle.std.proofs.Math.ListN.{get_or-map}
use Rattle.std.proofs.lemmas.List.{length-map}
use Rattle.triples.specs.declared.triple.Triple.{Triple}
use Rattle.triples.specs.Sets.{Graph}
use Rattle.entailment.specs.declared.regime.Regime.{Regime}
use Rattle.entailment.specs.declared.regime.Regime.TheVariants.{Simple, Rdf, Rdfs}
use Rattle.entailment.specs.Terms.{Term, blank, where_from, names_of, positions_of, thirty}
use Rattle.entailment.specs.Vocabulary.{#type, #Property, #Resource, #CMP, #domain, #range}
use Rattle.entailment.specs.Rows.{triple}
use Rattle.entailment.specs.Starts.{each, rdf_fixed, rdfs_fixed, rdf_start, rdfs_start, start}
use Rattle.entailment.proofs.Basics.{all_unmap}
use Rattle.entailment.proofs.Counting.{passed}
use Rattle.closing.specs.declared.kinds.TermKind.{TermKind}
use Rattle.closing.specs.declared.kinds.TermKind.TheVariants.{Blank}
use Rattle.closing.specs.declared.starts.Which.{Which}
use Rattle.closing.specs.declared.starts.Which.TheVariants.{Names, Positions}
use Rattle.closing.specs.Kinds.{kind}
use Rattle.closing.specs.Passes.{HoldsAll}
use Rattle.closing.specs.Seeds.{all_kinds, picks, HoldsEach, HoldsRdf, HoldsRdfs, HoldsStart}
use Rattle.closing.proofs.Elements.{all_front, all_rest}
use Rattle.closing.proofs.KindsOfTerms.{all_kinds-of, tested, picks-kind}

first_passes : (P : ℕ → Type 0) (b : Bool) (k : ℕ) (ns : List ℕ) → AllByRecursion P (cond b (k ∷ ns) ns) → T b → P k
first_passes P true k ns h t = h.0
first_passes P false k ns h t = absurd t

rest_holds : (P : ℕ → Type 0) (b : Bool) (k : ℕ) (ns : List ℕ) → AllByRecursion P (cond b (k ∷ ns) ns) → AllByRecursion P ns
rest_holds P true k ns h = h.1
rest_holds P false k ns h = h

both_hold : (P : ℕ → Type 0) (b : Bool) (k : ℕ) (ns : List ℕ) → (T b → P k) → AllByRecursion P ns → AllByRecursion P (cond b (k ∷ ns) ns)
both_hold P true k ns h r = (h tt, r)
both_hold P false k ns h r = r

-- P of each number whose term passes the test
module _ (P : ℕ → Type 0) (f : Term → Bool) where
  pub where_at : (k : ℕ) (ts : List Term) → AllByRecursion P (where_from f k ts) → (n : ℕ) → n < length ts → T (f (get_or ts n blank)) → P (k + n)
  where_at k [] h n l t = absurd (omega arith)
  where_at k (x ∷ ts) h zero l t = let e : k ≡ k + 0 = omega arith in subst P e (first_passes P (f x) k (where_from f (suc k) ts) h t)
  where_at k (x ∷ ts) h (suc n) l t =
      let e : suc k + n ≡ k + suc n = omega arith in
      subst P e (where_at (suc k) ts (rest_holds P (f x) k (where_from f (suc k) ts) h) n (le_of_suc-le-suc l) t)

  pub where_all : (k : ℕ) (ts : List Term) → ((n : ℕ) → n < length ts → T (f (get_or ts n blank)) → P (k + n)) → AllByRecursion P (where_from f k ts)
  where_all k [] h = tt
  where_all k (x ∷ ts) h =
      let e : k + 0 ≡ k = omega arith in
      both_hold P (f x) k (where_from f (suc k) ts) (λ t. subst P e (h 0 (suc-le-suc zero-le) t))
      (where_all (suc k) ts (λ n l t. let d : k + suc n ≡ suc k + n = omega arith in subst P d (h (suc n) (suc-le-suc l) t)))

module _ (more : List Term) (f : Graph) where
  module _ (w : Which) where
    kind-at : (n : ℕ) → picks w (get_or (all_kinds (map kind more)) n Blank) ≡ tested w (get_or (thirty ++ more) n blank)
    kind-at n =
        ap (λ (ks : List TermKind). picks w (get_or ks n Blank)) (all_kinds-of more)
        ∙ ap (λ (k : TermKind). picks w k) (get_or-map kind (thirty ++ more) n blank)
        ∙ picks-kind w (get_or (thirty ++ more) n blank)

    kinds-length : length (all_kinds (map kind more)) ≡ length (thirty ++ more)
    kinds-length = ap length (all_kinds-of more) ∙ length-map (thirty ++ more) kind

    module _ (p o : ℕ) where
      each_list : HoldsEach w p o (map kind more) f → HoldsAll (each p o (where_from (tested w) 0 (thirty ++ more))) f
      each_list h =
          All-map (λ t. f t ≡ true) (λ x. triple x p o) (where_from (tested w) 0 (thirty ++ more))
          (where_all (λ x. f (triple x p o) ≡ true) (tested w) 0 (thirty ++ more)
          (λ n l t. let e : n ≡ 0 + n = omega arith in
          subst (λ i. f (triple i p o) ≡ true) e (h n (omega (arith, kinds-length, l)) (kind-at n ∙ passed (tested w (get_or (thirty ++ more) n blank)) t))))

      list_each : HoldsAll (each p o (where_from (tested w) 0 (thirty ++ more))) f → HoldsEach w p o (map kind more) f
      list_each h n l picked =
          let e : 0 + n ≡ n = omega arith in
          subst (λ i. f (triple i p o) ≡ true) e
          (where_at (λ x. f (triple x p o) ≡ true) (tested w) 0 (thirty ++ more)
          (all_unmap (λ x. triple x p o) (λ t. f t ≡ true) (where_from (tested w) 0 (thirty ++ more)) h)
          n (omega (arith, kinds-length, l)) (passes (tested w (get_or (thirty ++ more) n blank)) (sym (kind-at n) ∙ picked)))

  abbrev In : List Triple → Type 0
  In xs = HoldsAll xs f

  rdf_list : HoldsRdf (map kind more) f → In (rdf_start (thirty ++ more))
  rdf_list h = All-append (λ t. f t ≡ true) rdf_fixed (each #type #Property (positions_of (thirty ++ more))) h.0 (each_list Positions #type #Property h.1)

  list_rdf : In (rdf_start (thirty ++ more)) → HoldsRdf (map kind more) f
  list_rdf h = (
    all_front (λ t. f t ≡ true) rdf_fixed (each #type #Property (positions_of (thirty ++ more))) h,
    list_each Positions #type #Property (all_rest (λ t. f t ≡ true) rdf_fixed (each #type #Property (positions_of (thirty ++ more))) h),
  )

  abbrev names : List Triple
  names = each #type #Resource (names_of (thirty ++ more))

  abbrev typed : List Triple
  typed = each #type #CMP (positions_of (thirty ++ more))

  abbrev domains : List Triple
  domains = each #domain #Resource (positions_of (thirty ++ more))

  abbrev ranges : List Triple
  ranges = each #range #Resource (positions_of (thirty ++ more))

  rdfs_list : HoldsRdfs (map kind more) f → In (rdfs_start (thirty ++ more))
  rdfs_list h =
      All-append (λ t. f t ≡ true) rdfs_fixed (names ++ (typed ++ (domains ++ ranges))) h.0
      (All-append (λ t. f t ≡ true) names (typed ++ (domains ++ ranges)) (each_list Names #type #Resource h.1)
      (All-append (λ t. f t ≡ true) typed (domains ++ ranges) (each_list Positions #type #CMP h.2)
      (All-append (λ t. f t ≡ true) domains ranges (each_list Positions #domain #Resource h.3) (each_list Positions #range #Resource h.4))))

  list_rdfs : In (rdfs_start (thirty ++ more)) → HoldsRdfs (map kind more) f
  list_rdfs h =
      let a = all_rest (λ t. f t ≡ true) rdfs_fixed (names ++ (typed ++ (domains ++ ranges))) h in
      let b = all_rest (λ t. f t ≡ true) names (typed ++ (domains ++ ranges)) a in
      let c = all_rest (λ t. f t ≡ true) typed (domains ++ ranges) b in (
        all_front (λ t. f t ≡ true) rdfs_fixed (names ++ (typed ++ (domains ++ ranges))) h,
        list_each Names #type #Resource (all_front (λ t. f t ≡ true) names (typed ++ (domains ++ ranges)) a),
        list_each Positions #type #CMP (all_front (λ t. f t ≡ true) typed (domains ++ ranges) b),
        list_each Positions #domain #Resource (all_front (λ t. f t ≡ true) domains ranges c),
        list_each Positions #range #Resource (all_rest (λ t. f t ≡ true) domains ranges c),
      )

  pub start_list : (r : Regime) → HoldsStart r (map kind more) f → HoldsAll (start r (thirty ++ more)) f
  start_list Simple h = tt
  start_list Rdf h = rdf_list h
  start_list Rdfs h = All-append (λ t. f t ≡ true) (rdf_start (thirty ++ more)) (rdfs_start (thirty ++ more)) (rdf_list h.0) (rdfs_list h.1)

  pub list_start : (r : Regime) → HoldsAll (start r (thirty ++ more)) f → HoldsStart r (map kind more) f
  list_start Simple h = tt
  list_start Rdf h = list_rdf h
  list_start Rdfs h = (
    list_rdf (all_front (λ t. f t ≡ true) (rdf_start (thirty ++ more)) (rdfs_start (thirty ++ more)) h),
    list_rdfs (all_rest (λ t. f t ≡ true) (rdf_start (thirty ++ more)) (rdfs_start (thirty ++ more)) h),
  )
