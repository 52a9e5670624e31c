-- Worlds that are made of a closed set, in which each term stands for itself: where a goal is entailed, it is true there, and so
-- it embeds in the set.
use mathlib.Core.Path.{subst₃}
use Rattle.std.proofs.Common.{◌≡◌, ℕ, ◌<◌, Bool, true, false, cond, T, List, ◌++◌, length, sym, refl}
use Rattle.std.specs.List.{ContainsAt as Has}
use Rattle.std.proofs.ByRecursion.{All-weaker, all_has_itself}
use Rattle.triples.specs.declared.triple.Triple.{Triple}
use Rattle.triples.specs.Sets.{Graph}
use Rattle.entailment.specs.declared.regime.Regime.{Regime}
use Rattle.entailment.specs.declared.goal.GoalRow.{GoalRow}
use Rattle.entailment.specs.Terms.{Term, is_name, rdf, rdfs, thirty}
use Rattle.entailment.specs.Rows.{triple}
use Rattle.entailment.specs.Worlds.{World, WorldOf, MakesTrue, True, meaning}
use Rattle.entailment.specs.Entailment.{Embeds, Entails, GoalTrue, put}
use Rattle.entailment.proofs.Basics.{cond_by_test}

-- the first of the thirty is a name
pub zero_named : (more : List Term) → T (is_name (thirty ++ more) 0)
unfolding thirty rdf rdfs
zero_named more = tt

module _ (more : List Term) (set : Graph) where
  abbrev ts : List Term
  ts = thirty ++ more

  -- which numbers are things and which are properties, so that the triples of the set are the pairs of a world
  pub record Choice : Type 0 where
    pub thing : ℕ → Bool
    pub property : ℕ → Bool
    pub of_terms : (n : ℕ) → T (thing n) → n < length ts
    pub names : (n : ℕ) → T (is_name ts n) → T (thing n)
    pub properties : (a : ℕ) → T (property a) → T (thing a)
    pub predicates : (t : Triple) → T (set t) → T (property t.predicate)
    pub ends : (t : Triple) → T (set t) → T (thing t.subject) × T (thing t.object)

  module _ (c : Choice) where
    abbrev pub canonical : World ts
    canonical =
        record {
          thing = c.thing;
          property = c.property;
          pairs = λ a u v. set (triple u a v);
          denotes = λ n. n;
          nonempty = (0, c.names 0 (zero_named more));
          properties_are_things = c.properties;
          only_properties_pair = λ a u v h. c.predicates (triple u a v) h;
          pairs_are_of_things = λ a u v h. c.ends (triple u a v) h;
          names_denote_things = c.names;
        }

    pub true_there : (t : Triple) → T (set t) → True canonical (λ n. n) t
    true_there t h = (c.predicates t h, h)

    -- a thing for each blank: itself, if it is one
    abbrev own : ℕ → ℕ
    own n = cond (c.thing n) n 0

    own-thing : (n : ℕ) → T (c.thing (own n))
    own-thing n = go (c.thing n) (λ h. h)
      where
        go : (b : Bool) → (T b → T (c.thing n)) → T (c.thing (cond b n 0))
        go true h = h tt
        go false h = c.names 0 (zero_named more)

    stays : (n : ℕ) → T (c.thing n) → n ≡ meaning canonical own n
    stays n h = go (is_name ts n)
      where
        go : (b : Bool) → n ≡ cond b n (own n)
        go true = refl
        go false = sym (cond_by_test (c.thing n) n 0 h)

    makes_true : (kept : List Triple) → ((t : Triple) → Has kept t → T (set t)) → MakesTrue canonical kept
    makes_true kept h = (own, own-thing, All-weaker (Has kept) (True canonical (meaning canonical own)) one kept (all_has_itself kept))
      where
        one : (t : Triple) → Has kept t → True canonical (meaning canonical own) t
        one t m =
            let k = h t m in
            let p = c.predicates t k in
            let e = c.ends t k in
            subst₃ (λ p s o. T (c.property p) × T (set (triple s p o))) (stays t.predicate (c.properties t.predicate p)) (stays t.subject e.0) (stays t.object e.1) (p, k)

    embeds : (goal : List GoalRow) → GoalTrue canonical goal → Embeds ts set goal
    embeds goal h = (
      h.0,
      λ k. c.of_terms (h.0 k) (h.1 k),
      All-weaker (λ g. True canonical (λ x. x) (put h.0 g)) (λ g. T (set (put h.0 g))) (λ g k. k.1) goal h.2,
    )

    -- where a goal is entailed, it embeds
    pub entailed-embeds : (r : Regime) (kept : List Triple) (goal : List GoalRow) → ((t : Triple) → Has kept t → T (set t))
        → WorldOf r canonical → Entails r ts kept goal → Embeds ts set goal
    entailed-embeds r kept goal k o h = embeds goal (h canonical o (makes_true kept k))
