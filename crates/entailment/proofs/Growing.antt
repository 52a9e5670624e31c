-- The closure grows: a set that is closed for more terms, more kept triples and a regime that extends is closed for fewer.
use Rattle.std.proofs.Common.{ℕ, suc, Bool, true, false, cond, T, List, [], ◌∷◌, ◌++◌}
use Rattle.std.specs.List.{ContainsAt as Has, AllByRecursion}
use Rattle.std.proofs.ByRecursion.{All-append, All-map, All-weaker, all-has, all_has_itself, has_append_left, has_append_right}
use Rattle.entailment.specs.declared.regime.Regime.{Regime}
use Rattle.entailment.specs.declared.regime.Regime.TheVariants.{Simple, Rdf, Rdfs}
use Rattle.entailment.specs.declared.regime.Row.{Row}
use Rattle.entailment.specs.Terms.{Term, named, position, where_from, names_of, positions_of}
use Rattle.entailment.specs.Vocabulary.{#type, #Property, #Resource, #CMP, #domain, #range}
use Rattle.entailment.specs.Rows.{triple, uses}
use Rattle.entailment.specs.Starts.{start, rdf_start, rdfs_start, rdf_fixed, rdfs_fixed, names_start, positions_start, each}
use Rattle.entailment.specs.Laws.{extends, Grows}
use Rattle.entailment.proofs.Basics.{has_first, has_later, has_map}

-- each element of one list stands in another
Included : {X : Type 0} → List X → List X → Type 0
Included xs ys = AllByRecursion (λ x. Has ys x) xs

included-append : {X : Type 0} (a b c d : List X) → Included a c → Included b d → Included (a ++ b) (c ++ d)
unfolding Included
included-append a b c d h k =
    All-append (λ x. Has (c ++ d) x) a b
    (All-weaker (λ x. Has c x) (λ x. Has (c ++ d) x) (has_append_left c d) a h)
    (All-weaker (λ x. Has d x) (λ x. Has (c ++ d) x) (has_append_right c d) b k)

included-each : (p o : ℕ) (xs ys : List ℕ) → Included xs ys → Included (each p o xs) (each p o ys)
unfolding Included
included-each p o xs ys h =
    All-map (λ t. Has (each p o ys) t) (λ x. triple x p o) xs
    (All-weaker (λ x. Has ys x) (λ x. Has (each p o ys) (triple x p o)) (λ x m. has_map (λ z. triple z p o) ys x m) xs h)

included-cond : (b : Bool) (k : ℕ) (ns ms : List ℕ) → Included ns ms → Included (cond b (k ∷ ns) ns) (cond b (k ∷ ms) ms)
unfolding Included
included-cond true k ns ms h = (has_first k ms, All-weaker (λ x. Has ms x) (λ x. Has (k ∷ ms) x) (λ x m. has_later k x ms m) ns h)
included-cond false k ns ms h = h

included-where_from : (f : Term → Bool) (k : ℕ) (ts more : List Term) → Included (where_from f k ts) (where_from f k (ts ++ more))
unfolding Included
included-where_from f k [] more = tt
included-where_from f k (t ∷ ts) more = included-cond (f t) k (where_from f (suc k) ts) (where_from f (suc k) (ts ++ more)) (included-where_from f (suc k) ts more)

module _ (ts more : List Term) where
  abbrev all : List Term
  all = ts ++ more

  positions : (p o : ℕ) → Included (each p o (positions_of ts)) (each p o (positions_of all))
  positions p o = included-each p o (positions_of ts) (positions_of all) (included-where_from position 0 ts more)

  names : Included (names_start ts) (names_start all)
  names = included-each #type #Resource (names_of ts) (names_of all) (included-where_from named 0 ts more)

  included-rdf_start : Included (rdf_start ts) (rdf_start all)
  unfolding Included
  included-rdf_start = included-append rdf_fixed _ rdf_fixed _ (all_has_itself rdf_fixed) (positions #type #Property)

  included-rdfs_start : Included (rdfs_start ts) (rdfs_start all)
  unfolding Included
  included-rdfs_start =
      included-append rdfs_fixed _ rdfs_fixed _ (all_has_itself rdfs_fixed)
      (included-append (names_start ts) (positions_start ts) (names_start all) (positions_start all) names
      (included-append (each #type #CMP (positions_of ts)) _ (each #type #CMP (positions_of all)) _ (positions #type #CMP)
      (included-append (each #domain #Resource (positions_of ts)) _ (each #domain #Resource (positions_of all)) _ (positions #domain #Resource) (positions #range #Resource))))

  included-start : (r s : Regime) → T (extends r s) → Included (start r ts) (start s all)
  unfolding Included
  included-start Simple s e = tt
  included-start Rdf Simple e = absurd e
  included-start Rdf Rdf e = included-rdf_start
  included-start Rdf Rdfs e = All-weaker (Has (rdf_start all)) (Has (start Rdfs all)) (has_append_left (rdf_start all) (rdfs_start all)) (rdf_start ts) included-rdf_start
  included-start Rdfs Simple e = absurd e
  included-start Rdfs Rdf e = absurd e
  included-start Rdfs Rdfs e = included-append (rdf_start ts) (rdfs_start ts) (rdf_start all) (rdfs_start all) included-rdf_start included-rdfs_start

uses-extends : (r s : Regime) (row : Row) → T (extends r s) → T (uses r row) → T (uses s row)
uses-extends Simple s row e u = absurd u
uses-extends Rdf Simple row e u = absurd e
uses-extends Rdf Rdf row e u = u
uses-extends Rdf Rdfs row e u = tt
uses-extends Rdfs Simple row e u = absurd e
uses-extends Rdfs Rdf row e u = absurd e
uses-extends Rdfs Rdfs row e u = u

pub grows : Grows
unfolding Included
grows r s ts more kept wider e h t i set c =
    i set
    (record {
      starts = λ u m. c.starts u (all-has (λ x. Has (start s (ts ++ more)) x) (start r ts) u (included-start ts more r s e) m);
      keeps = λ u m. c.keeps u (h u m);
      rows = λ row u σ p. c.rows row (uses-extends r s row e u) σ p;
    })
