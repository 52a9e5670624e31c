-- What lies in the closure is true in each world of the regime, under each assignment that makes the kept triples true.
use mathlib.Core.Path.{subst₃}
use Rattle.std.proofs.Common.{◌≡◌, ℕ, Bool, true, false, cond, ◌&&◌, T, List, ◌++◌, sym, refl}
use Rattle.std.specs.List.{AllByRecursion}
use Rattle.std.proofs.ByRecursion.{All-append, All-weaker, all-has}
use Rattle.triples.specs.declared.triple.Triple.{Triple}
use Rattle.triples.specs.Sets.{Graph}
use Rattle.entailment.specs.declared.regime.Regime.{Regime}
use Rattle.entailment.specs.declared.regime.Regime.TheVariants.{Simple, Rdf, Rdfs}
use Rattle.entailment.specs.declared.regime.Row.{Row}
use Rattle.entailment.specs.declared.regime.Row.TheVariants.{RdfD2, Rdfs2, Rdfs3, Rdfs4a, Rdfs4b, Rdfs5, Rdfs6, Rdfs7, Rdfs8, Rdfs9, Rdfs10, Rdfs11, Rdfs12, Rdfs13}
use Rattle.entailment.specs.declared.goal.Position.{Position}
use Rattle.entailment.specs.declared.goal.Position.TheVariants.{Name, Blank}
use Rattle.entailment.specs.declared.goal.GoalRow.{GoalRow}
use Rattle.entailment.specs.Terms.{Term, is_name, rdf, rdfs, thirty}
use Rattle.entailment.specs.Rows.{premises, conclusion, reading, uses}
use Rattle.entailment.specs.Starts.{start, rdf_start, rdfs_start}
use Rattle.entailment.specs.Closure.{Closed, InClosure}
use Rattle.entailment.specs.Worlds.{World, RdfWorld, RdfsWorld, WorldOf, Assigns, True, TrueOfNames, meaning}
use Rattle.entailment.specs.Entailment.{Embeds, Entails, GoalTrue, PositionNamed, RowNamed, stands, filled, put}
use Rattle.entailment.proofs.Basics.{cond_by_test, and_left, and_right, and_both, all_both}
use Rattle.entailment.proofs.Names.{Named, start-named}

module _ (more : List Term) (w : World (thirty ++ more)) (g : ℕ → ℕ) (things : Assigns w g) where
  abbrev ts : List Term
  ts = thirty ++ more

  abbrev f : ℕ → ℕ
  f n = meaning w g n

  name_means : (n : ℕ) → T (is_name ts n) → w.denotes n ≡ f n
  name_means n h = sym (cond_by_test (is_name ts n) (w.denotes n) (g n) h)

  thing_if : (b : Bool) (x y : ℕ) → (T b → T (w.thing x)) → T (w.thing y) → T (w.thing (cond b x y))
  thing_if true x y h k = h tt
  thing_if false x y h k = k

  meanings_are_things : (n : ℕ) → T (w.thing (f n))
  meanings_are_things n = thing_if (is_name ts n) (w.denotes n) (g n) (w.names_denote_things n) (things n)

  from_names : (t : Triple) → Named ts t → TrueOfNames w t → True w f t
  from_names t n h =
      subst₃ (λ p s o. T (w.property p) × T (w.pairs p s o)) (name_means t.predicate n.1) (name_means t.subject n.0) (name_means t.object n.2) h

  start-true : (r : Regime) → WorldOf r w → AllByRecursion (TrueOfNames w) (start r ts)
  start-true Simple o = tt
  start-true Rdf o = o.start_is_true
  start-true Rdfs o = All-append (TrueOfNames w) (rdf_start ts) (rdfs_start ts) o.0.start_is_true o.1.start_is_true

  -- a pair is a true triple
  made : (a u v : ℕ) → T (w.pairs a u v) → T (w.property a) × T (w.pairs a u v)
  made a u v h = (w.only_properties_pair a u v h, h)

  abbrev Premises : Row → (ℕ → ℕ) → Type 0
  Premises row σ = AllByRecursion (λ q. True w f (reading σ q)) (premises row)

  abbrev Concluded : Row → (ℕ → ℕ) → Type 0
  Concluded row σ = True w f (reading σ (conclusion row))

  d2_true : RdfWorld w → (σ : ℕ → ℕ) → Premises RdfD2 σ → Concluded RdfD2 σ
  unfolding thirty rdf rdfs
  d2_true i σ h = made _ _ _ (i.property_is_typed (f (σ 0)) h.0.0)

  row_true_rdf : RdfWorld w → (row : Row) → T (uses Rdf row) → (σ : ℕ → ℕ) → Premises row σ → Concluded row σ
  row_true_rdf i RdfD2 u σ h = d2_true i σ h
  row_true_rdf i row u σ h = absurd u

  row_true_rdfs : RdfWorld w → RdfsWorld w → (row : Row) (σ : ℕ → ℕ) → Premises row σ → Concluded row σ
  unfolding thirty rdf rdfs
  row_true_rdfs i j RdfD2 σ h = d2_true i σ h
  row_true_rdfs i j Rdfs2 σ h = made _ _ _ (j.domains _ _ _ _ h.0.1 h.1.0.1)
  row_true_rdfs i j Rdfs3 σ h = made _ _ _ (j.ranges _ _ _ _ h.0.1 h.1.0.1)
  row_true_rdfs i j Rdfs4a σ h = made _ _ _ (j.all_resources _ (meanings_are_things (σ 5)))
  row_true_rdfs i j Rdfs4b σ h = made _ _ _ (j.all_resources _ (meanings_are_things (σ 6)))
  row_true_rdfs i j Rdfs5 σ h = made _ _ _ (j.sp_transitive _ _ _ h.0.1 h.1.0.1)
  row_true_rdfs i j Rdfs6 σ h = made _ _ _ (j.sp_reflexive _ (i.typed_is_property _ h.0.1))
  row_true_rdfs i j Rdfs7 σ h = made _ _ _ (j.sp_pairs _ _ _ _ h.0.1 h.1.0.1)
  row_true_rdfs i j Rdfs8 σ h = made _ _ _ (j.classes_in_resource _ h.0.1)
  row_true_rdfs i j Rdfs9 σ h = made _ _ _ (j.sc_members _ _ _ h.0.1 h.1.0.1)
  row_true_rdfs i j Rdfs10 σ h = made _ _ _ (j.sc_reflexive _ h.0.1)
  row_true_rdfs i j Rdfs11 σ h = made _ _ _ (j.sc_transitive _ _ _ h.0.1 h.1.0.1)
  row_true_rdfs i j Rdfs12 σ h = made _ _ _ (j.memberships_under_member _ h.0.1)
  row_true_rdfs i j Rdfs13 σ h = made _ _ _ (j.datatypes_in_literal _ h.0.1)

  row_true : (r : Regime) → WorldOf r w → (row : Row) → T (uses r row) → (σ : ℕ → ℕ) → Premises row σ → Concluded row σ
  row_true Simple o row u σ h = absurd u
  row_true Rdf o row u σ h = row_true_rdf o row u σ h
  row_true Rdfs o row u σ h = row_true_rdfs o.0 o.1 row σ h

  -- the true triples, as a set
  abbrev true_ones : Graph
  true_ones t = w.property (f t.predicate) && w.pairs (f t.predicate) (f t.subject) (f t.object)

  out : (t : Triple) → T (true_ones t) → True w f t
  out t h =
      let p = w.property (f t.predicate) in
      let q = w.pairs (f t.predicate) (f t.subject) (f t.object) in
      (and_left p q h, and_right p q h)

  into : (t : Triple) → True w f t → T (true_ones t)
  into t h = and_both _ _ h.0 h.1

  true_ones-closed : (r : Regime) (kept : List Triple) → WorldOf r w → AllByRecursion (True w f) kept → Closed r ts kept true_ones
  true_ones-closed r kept o k =
      record {
        starts = λ t m. into t (all-has (True w f) (start r ts) t (all_both (Named ts) (TrueOfNames w) (True w f) from_names (start r ts) (start-named more r) (start-true r o)) m);
        keeps = λ t m. into t (all-has (True w f) kept t k m);
        rows = λ row u σ h. into (reading σ (conclusion row)) (row_true r o row u σ (All-weaker (λ q. T (true_ones (reading σ q))) (λ q. True w f (reading σ q)) (λ q x. out (reading σ q) x) (premises row) h));
      }

  closure-true : (r : Regime) (kept : List Triple) → WorldOf r w → AllByRecursion (True w f) kept → (t : Triple) → InClosure r ts kept t → True w f t
  closure-true r kept o k t h = out t (h true_ones (true_ones-closed r kept o k))

  position_means : (m : ℕ → ℕ) (p : Position) → PositionNamed ts p → f (stands (λ n. n) m p) ≡ stands w.denotes (λ k. f (m k)) p
  position_means m (Name n) h = sym (name_means n h)
  position_means m (Blank k) h = refl

  row_means : (m : ℕ → ℕ) (q : GoalRow) → RowNamed ts q → True w f (put m q) → True w (λ x. x) (filled w.denotes (λ k. f (m k)) q)
  row_means m q n h =
      subst₃ (λ p s o. T (w.property p) × T (w.pairs p s o)) (position_means m q.predicate n.1) (position_means m q.subject n.0) (position_means m q.object n.2) h

  -- where the goal's rows are put into the closure, the goal is true
  pub goal-true : (r : Regime) (kept : List Triple) → WorldOf r w → AllByRecursion (True w f) kept
      → (goal : List GoalRow) → AllByRecursion (RowNamed ts) goal → (m : ℕ → ℕ) → AllByRecursion (λ q. InClosure r ts kept (put m q)) goal → GoalTrue w goal
  goal-true r kept o k goal n m h = (
    λ i. f (m i),
    λ i. meanings_are_things (m i),
    all_both (RowNamed ts) (λ q. InClosure r ts kept (put m q)) (λ q. True w (λ x. x) (filled w.denotes (λ i. f (m i)) q))
        (λ q a b. row_means m q a (closure-true r kept o k (put m q) b)) goal n h,
  )

-- a goal that embeds in the closure is entailed
pub embedded-entailed : (r : Regime) (more : List Term) (kept : List Triple) (goal : List GoalRow) (set : Graph)
    → AllByRecursion (RowNamed (thirty ++ more)) goal → ((t : Triple) → T (set t) → InClosure r (thirty ++ more) kept t)
    → Embeds (thirty ++ more) set goal → Entails r (thirty ++ more) kept goal
embedded-entailed r more kept goal set named least e w o k =
    goal-true more w k.0 k.1 r kept o k.2 goal named e.0
    (All-weaker (λ q. T (set (put e.0 q))) (λ q. InClosure r (thirty ++ more) kept (put e.0 q)) (λ q h. least (put e.0 q) h) goal e.2)
