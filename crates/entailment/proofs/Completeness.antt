-- The world of each regime that is made of a closed set of triples of terms; so what is entailed embeds in it.
use Rattle.std.proofs.Common.{◌≡◌, ℕ, ◌<◌, Bool, true, false, T, ltb, ltb→lt, lt→ltb, List, [], ◌∷◌, ◌++◌, length, get_or, refl}
use Rattle.std.specs.List.{ContainsAt as Has, AllByRecursion, list_any}
use Rattle.std.proofs.ByRecursion.{All-weaker, all_has_itself, has_append_left, has_append_right}
use Rattle.triples.specs.declared.triple.Triple.{Triple}
use Rattle.triples.specs.Sets.{Graph, same}
use Rattle.triples.proofs.Triples.{same_true}
use Rattle.entailment.specs.declared.regime.Regime.{Regime}
use Rattle.entailment.specs.declared.regime.Regime.TheVariants.{Simple, Rdf, Rdfs}
use Rattle.entailment.specs.declared.regime.Row.{Row}
use Rattle.entailment.specs.declared.regime.Row.TheVariants.{RdfD2, Rdfs2, Rdfs3, Rdfs4a, Rdfs4b, Rdfs5, Rdfs6, Rdfs7, Rdfs8, Rdfs9, Rdfs10, Rdfs11, Rdfs12, Rdfs13}
use Rattle.entailment.specs.declared.goal.GoalRow.{GoalRow}
use Rattle.entailment.specs.Terms.{Term, is_name, names_of, thirty}
use Rattle.entailment.specs.Vocabulary.{#type, #Property, #Resource, #Class, #domain, #range, #subClassOf, #subPropertyOf}
use Rattle.entailment.specs.Rows.{triple, premises, conclusion, reading, uses}
use Rattle.entailment.specs.Starts.{start, rdf_start, rdfs_start, rdfs_fixed, names_start, positions_start}
use Rattle.entailment.specs.Closure.{Closed}
use Rattle.entailment.specs.Worlds.{RdfsWorld, TrueOfNames}
use Rattle.entailment.specs.Entailment.{Embeds, Entails, OfTerms}
use Rattle.entailment.proofs.Basics.{has_map, has_by_test}
use Rattle.entailment.proofs.Names.{name-found, name-within}
use Rattle.entailment.proofs.Canonical.{Choice, canonical, true_there, entailed-embeds}

-- the letters of a row, given as a b c d e x y
abbrev letters : ℕ → ℕ → ℕ → ℕ → ℕ → ℕ → ℕ → ℕ → ℕ
letters a b c d e x y k = get_or (a ∷ b ∷ c ∷ d ∷ e ∷ x ∷ y ∷ []) k 0

module _ (more : List Term) (r : Regime) (kept : List Triple) (set : Graph) (closed : Closed r (thirty ++ more) kept set) (inside : (t : Triple) → T (set t) → OfTerms (thirty ++ more) t) where
  abbrev ts : List Term
  ts = thirty ++ more

  by : (row : Row) → T (uses r row) → (a b c d e x y : ℕ) → AllByRecursion (λ f. T (set (reading (letters a b c d e x y) f))) (premises row) → T (set (reading (letters a b c d e x y) (conclusion row)))
  by row u a b c d e x y h = closed.rows row u (letters a b c d e x y) h

  predicate-property : T (uses r RdfD2) → (t : Triple) → T (set t) → T (set (triple t.predicate #type #Property))
  predicate-property u t h = by RdfD2 u t.predicate 0 0 0 0 t.subject t.object (h, tt)

  start_there : (c : Choice more set) (xs : List Triple) → ((t : Triple) → Has xs t → Has (start r ts) t) → AllByRecursion (TrueOfNames (canonical more set c)) xs
  start_there c xs h = All-weaker (Has xs) (TrueOfNames (canonical more set c)) (λ t m. true_there more set c t (closed.starts t (h t m))) xs (all_has_itself xs)

  abbrev term : ℕ → Bool
  term n = ltb n (length ts)

  -- each term is a thing
  abbrev over_terms : (property : ℕ → Bool) → ((a : ℕ) → T (property a) → a < length ts) → ((t : Triple) → T (set t) → T (property t.predicate)) → Choice more set
  over_terms property few all =
      record {
        thing = term;
        property = property;
        of_terms = λ n h. ltb→lt n (length ts) h;
        names = λ n h. lt→ltb n (length ts) (name-within ts n h);
        properties = λ a h. lt→ltb a (length ts) (few a h);
        predicates = all;
        ends = λ t h. (lt→ltb t.subject (length ts) (inside t h).0, lt→ltb t.object (length ts) (inside t h).2);
      }

  -- and a property
  abbrev simple_choice : Choice more set
  simple_choice = over_terms term (λ a h. ltb→lt a (length ts) h) (λ t h. lt→ltb t.predicate (length ts) (inside t h).1)

  abbrev rdf_choice : T (uses r RdfD2) → Choice more set
  rdf_choice u = over_terms (λ a. set (triple a #type #Property)) (λ a h. (inside (triple a #type #Property) h).0) (predicate-property u)

module _ (more : List Term) (kept : List Triple) (set : Graph) (closed : Closed Rdfs (thirty ++ more) kept set) (inside : (t : Triple) → T (set t) → OfTerms (thirty ++ more) t) where
  abbrev terms : List Term
  terms = thirty ++ more

  row : (k : Row) (a b c d e x y : ℕ) → AllByRecursion (λ f. T (set (reading (letters a b c d e x y) f))) (premises k) → T (set (reading (letters a b c d e x y) (conclusion k)))
  row k a b c d e x y h = by more Rdfs kept set closed inside k tt a b c d e x y h

  is_true : (b : Bool) → T b → b ≡ true
  is_true true h = refl
  is_true false h = absurd h

  -- a triple that the start set has over every book
  fixed : (t : Triple) → T (list_any (λ u. same u t) rdfs_fixed) → T (set t)
  fixed t h =
      closed.starts t
      (has_append_right (rdf_start terms) (rdfs_start terms) t
      (has_append_left rdfs_fixed (names_start terms ++ positions_start terms) t
      (has_by_test (λ u. same u t) t (λ u k. same_true u t (is_true (same u t) k)) rdfs_fixed h)))

  name-resource : (n : ℕ) → T (is_name terms n) → T (set (triple n #type #Resource))
  name-resource n h =
      let t = triple n #type #Resource in
      closed.starts t
      (has_append_right (rdf_start terms) (rdfs_start terms) t
      (has_append_right rdfs_fixed (names_start terms ++ positions_start terms) t
      (has_append_left (names_start terms) (positions_start terms) t
      (has_map (λ x. triple x #type #Resource) (names_of terms) n (name-found terms n h)))))

  -- what has type Resource is a thing
  abbrev rdfs_choice : Choice more set
  rdfs_choice =
      record {
        thing = λ n. set (triple n #type #Resource);
        property = λ a. set (triple a #type #Property);
        of_terms = λ n h. (inside (triple n #type #Resource) h).0;
        names = name-resource;
        properties = λ a h. row Rdfs4a #type 0 0 0 0 a #Property (h, tt);
        predicates = predicate-property more Rdfs kept set closed inside tt;
        ends = λ t h. (row Rdfs4a t.predicate 0 0 0 0 t.subject t.object (h, tt), row Rdfs4b t.predicate 0 0 0 0 t.subject t.object (h, tt));
      }

  rdfs-world : RdfsWorld (canonical more set rdfs_choice)
  rdfs-world =
      record {
        all_resources = λ x h. h;
        start_is_true = start_there more Rdfs kept set closed inside rdfs_choice (rdfs_start terms) (λ t m. has_append_right (rdf_start terms) (rdfs_start terms) t m);
        domains = λ a c u v h k. row Rdfs2 a 0 c 0 0 u v (h, (k, tt));
        ranges = λ a c u v h k. row Rdfs3 a 0 c 0 0 u v (h, (k, tt));
        sp_reflexive = λ a h. row Rdfs6 a 0 0 0 0 0 0 (h, tt);
        sp_transitive = λ a b c h k. row Rdfs5 a b c 0 0 0 0 (h, (k, tt));
        sp_properties = λ a b h. (
          row Rdfs2 #subPropertyOf 0 #Property 0 0 a b (fixed (triple #subPropertyOf #domain #Property) tt, (h, tt)),
          row Rdfs3 #subPropertyOf 0 #Property 0 0 a b (fixed (triple #subPropertyOf #range #Property) tt, (h, tt)),
        );
        sp_pairs = λ a b u v h k. row Rdfs7 a b 0 0 0 u v (h, (k, tt));
        sc_reflexive = λ c h. row Rdfs10 0 0 c 0 0 0 0 (h, tt);
        sc_transitive = λ c d e h k. row Rdfs11 0 0 c d e 0 0 (h, (k, tt));
        sc_classes = λ c d h. (
          row Rdfs2 #subClassOf 0 #Class 0 0 c d (fixed (triple #subClassOf #domain #Class) tt, (h, tt)),
          row Rdfs3 #subClassOf 0 #Class 0 0 c d (fixed (triple #subClassOf #range #Class) tt, (h, tt)),
        );
        sc_members = λ c d u h k. row Rdfs9 0 0 c d 0 u 0 (h, (k, tt));
        classes_in_resource = λ c h. row Rdfs8 0 0 c 0 0 0 0 (h, tt);
        datatypes_in_literal = λ c h. row Rdfs13 0 0 c 0 0 0 0 (h, tt);
        memberships_under_member = λ a h. row Rdfs12 a 0 0 0 0 0 0 (h, tt);
      }

-- what is entailed embeds in each closed set of triples of terms
pub entailed-embedded : (r : Regime) (more : List Term) (kept : List Triple) (goal : List GoalRow) (set : Graph)
    → Closed r (thirty ++ more) kept set → ((t : Triple) → T (set t) → OfTerms (thirty ++ more) t)
    → Entails r (thirty ++ more) kept goal → Embeds (thirty ++ more) set goal
entailed-embedded Simple more kept goal set closed inside =
    entailed-embeds more set (simple_choice more Simple kept set closed inside) Simple kept goal closed.keeps tt
entailed-embedded Rdf more kept goal set closed inside =
    let c = rdf_choice more Rdf kept set closed inside tt in
    entailed-embeds more set c Rdf kept goal closed.keeps
    (record { property_is_typed = λ x h. h; typed_is_property = λ x h. h; start_is_true = start_there more Rdf kept set closed inside c (rdf_start (thirty ++ more)) (λ t m. m) })
entailed-embedded Rdfs more kept goal set closed inside =
    let ts = thirty ++ more in
    let c = rdfs_choice more kept set closed inside in
    entailed-embeds more set c Rdfs kept goal closed.keeps (
      record { property_is_typed = λ x h. h; typed_is_property = λ x h. h; start_is_true = start_there more Rdfs kept set closed inside c (rdf_start ts) (λ t m. has_append_left (rdf_start ts) (rdfs_start ts) t m) },
      rdfs-world more kept set closed inside,
    )
