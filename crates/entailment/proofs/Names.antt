-- The start sets speak of names only, and of each name.
use Rattle.std.proofs.Common.{◌≡◌, ℕ, zero, suc, ◌+◌, ◌-◌, ◌<◌, ◌≤◌, Bool, true, false, cond, ◌&&◌, T, List, [], ◌∷◌, ◌++◌, length, get_or, sym, subst, suc-le-suc, le_of_suc-le-suc, not-suc-le-zero, arith}
use Rattle.std.specs.List.{ContainsAt as Has, AllByRecursion, list_all}
use Rattle.std.proofs.ByRecursion.{All-append, All-map, All-weaker}
use Rattle.triples.specs.declared.triple.Triple.{Triple}
use Rattle.entailment.specs.declared.regime.Regime.{Regime}
use Rattle.entailment.specs.declared.regime.Regime.TheVariants.{Simple, Rdf, Rdfs}
use Rattle.entailment.specs.Terms.{Term, iri, literal, blank, named, position, is_name, where_from, names_of, positions_of, rdf, rdfs, thirty}
use Rattle.entailment.specs.Vocabulary.{#type, #Property, #Resource, #CMP, #domain, #range}
use Rattle.entailment.specs.Rows.{triple}
use Rattle.entailment.specs.Starts.{start, rdf_start, rdfs_start, rdf_fixed, rdfs_fixed, each}
use Rattle.entailment.proofs.Basics.{and_left, and_right, all-by_test, has_first, has_later}

-- a triple of names
abbrev pub Named : List Term → Triple → Type 0
Named ts t = T (is_name ts t.subject) × T (is_name ts t.predicate) × T (is_name ts t.object)

pub position-named : (t : Term) → T (position t) → T (named t)
position-named (iri b) h = tt
position-named (literal b) h = absurd h
position-named blank h = h

-- what where_from finds passes each weaker test
Found : (Term → Bool) → ℕ → List Term → ℕ → Type 0
Found g k ts n = (k ≤ n) × T (g (get_or ts (n - k) blank))

further : (g : Term → Bool) (k : ℕ) (t : Term) (ts : List Term) (n : ℕ) → Found g (suc k) ts n → Found g k (t ∷ ts) n
unfolding Found
further g k t ts n h = let e : n - k ≡ suc (n - suc k) = omega (arith, h.0) in (omega (arith, h.0), subst (λ i. T (g (get_or (t ∷ ts) i blank))) (sym e) h.1)

first_found : (g : Term → Bool) (k : ℕ) (t : Term) (ts : List Term) → T (g t) → Found g k (t ∷ ts) k
unfolding Found
first_found g k t ts h = let e : k - k ≡ 0 = omega arith in (omega arith, subst (λ i. T (g (get_or (t ∷ ts) i blank))) (sym e) h)

all-cond : (P : ℕ → Type 0) (b : Bool) (k : ℕ) (ns : List ℕ) → (T b → P k) → AllByRecursion P ns → AllByRecursion P (cond b (k ∷ ns) ns)
all-cond P true k ns h r = (h tt, r)
all-cond P false k ns h r = r

found : (f g : Term → Bool) → ((t : Term) → T (f t) → T (g t)) → (k : ℕ) (ts : List Term) → AllByRecursion (Found g k ts) (where_from f k ts)
found f g imp k [] = tt
found f g imp k (t ∷ ts) =
    all-cond (Found g k (t ∷ ts)) (f t) k (where_from f (suc k) ts) (λ h. first_found g k t ts (imp t h))
    (All-weaker (Found g (suc k) ts) (Found g k (t ∷ ts)) (further g k t ts) (where_from f (suc k) ts) (found f g imp (suc k) ts))

found-named : (f : Term → Bool) → ((t : Term) → T (f t) → T (named t)) → (ts : List Term) → AllByRecursion (λ n. T (is_name ts n)) (where_from f 0 ts)
unfolding Found
found-named f imp ts =
    All-weaker (Found named 0 ts) (λ n. T (is_name ts n)) (λ n h. let e : n - 0 ≡ n = omega arith in subst (λ i. T (named (get_or ts i blank))) e h.1)
    (where_from f 0 ts) (found f named imp 0 ts)

-- the other way round: each term that passes the test is found
has_cond : (b : Bool) (k n : ℕ) (ns : List ℕ) → Has ns n → Has (cond b (k ∷ ns) ns) n
has_cond true k n ns h = has_later k n ns h
has_cond false k n ns h = h

has_cond-here : (b : Bool) (k : ℕ) (ns : List ℕ) → T b → Has (cond b (k ∷ ns) ns) k
has_cond-here true k ns h = has_first k ns
has_cond-here false k ns h = absurd h

finds : (f : Term → Bool) (k : ℕ) (ts : List Term) (i : ℕ) → i < length ts → T (f (get_or ts i blank)) → Has (where_from f k ts) (k + i)
finds f k [] i l h = absurd (not-suc-le-zero l)
finds f k (t ∷ ts) zero l h = let e : k ≡ k + 0 = omega arith in subst (λ n. Has (where_from f k (t ∷ ts)) n) e (has_cond-here (f t) k (where_from f (suc k) ts) h)
finds f k (t ∷ ts) (suc i) l h =
    let e : suc k + i ≡ k + suc i = omega arith in
    subst (λ n. Has (where_from f k (t ∷ ts)) n) e (has_cond (f t) k (suc k + i) (where_from f (suc k) ts) (finds f (suc k) ts i (le_of_suc-le-suc l) h))

-- a name has a number of the book
pub name-within : (ts : List Term) (n : ℕ) → T (is_name ts n) → n < length ts
name-within [] n h = absurd h
name-within (t ∷ ts) zero h = omega arith
name-within (t ∷ ts) (suc n) h = suc-le-suc (name-within ts n h)

pub name-found : (ts : List Term) (n : ℕ) → T (is_name ts n) → Has (names_of ts) n
name-found ts n h = let e : 0 + n ≡ n = omega arith in subst (λ m. Has (names_of ts) m) e (finds named 0 ts n (name-within ts n h) h)

module _ (more : List Term) where
  abbrev ts : List Term
  ts = thirty ++ more

  fixed : (xs : List Triple) → T (list_all (λ t. (is_name ts t.subject && is_name ts t.predicate) && is_name ts t.object) xs) → AllByRecursion (Named ts) xs
  fixed xs h = all-by_test (Named ts) (λ t. (is_name ts t.subject && is_name ts t.predicate) && is_name ts t.object)
      (λ t u. let l = and_left (is_name ts t.subject && is_name ts t.predicate) (is_name ts t.object) u in
      (and_left (is_name ts t.subject) (is_name ts t.predicate) l, and_right (is_name ts t.subject) (is_name ts t.predicate) l, and_right (is_name ts t.subject && is_name ts t.predicate) (is_name ts t.object) u))
      xs h

  several : (a y : ℕ) → T (is_name ts a) → T (is_name ts y) → (xs : List ℕ) → AllByRecursion (λ n. T (is_name ts n)) xs → AllByRecursion (Named ts) (each a y xs)
  several a y ha hy xs h = All-map (Named ts) (λ x. triple x a y) xs (All-weaker (λ n. T (is_name ts n)) (λ x. Named ts (triple x a y)) (λ x n. (n, ha, hy)) xs h)

  positions : AllByRecursion (λ n. T (is_name ts n)) (positions_of ts)
  positions = found-named position position-named ts

  rdf-named : AllByRecursion (Named ts) (rdf_start ts)
  unfolding thirty rdf rdfs
  rdf-named = All-append (Named ts) rdf_fixed (each #type #Property (positions_of ts)) (fixed rdf_fixed tt) (several #type #Property tt tt (positions_of ts) positions)

  rdfs-named : AllByRecursion (Named ts) (rdfs_start ts)
  unfolding thirty rdf rdfs
  rdfs-named =
      let last = each #range #Resource (positions_of ts) in
      let third = each #domain #Resource (positions_of ts) in
      let second = each #type #CMP (positions_of ts) in
      let one = each #type #Resource (names_of ts) in
      All-append (Named ts) rdfs_fixed (one ++ (second ++ (third ++ last))) (fixed rdfs_fixed tt)
      (All-append (Named ts) one (second ++ (third ++ last)) (several #type #Resource tt tt (names_of ts) (found-named named (λ t h. h) ts))
      (All-append (Named ts) second (third ++ last) (several #type #CMP tt tt (positions_of ts) positions)
      (All-append (Named ts) third last (several #domain #Resource tt tt (positions_of ts) positions)
      (several #range #Resource tt tt (positions_of ts) positions))))

  pub start-named : (r : Regime) → AllByRecursion (Named ts) (start r ts)
  start-named Simple = tt
  start-named Rdf = rdf-named
  start-named Rdfs = All-append (Named ts) (rdf_start ts) (rdfs_start ts) rdf-named rdfs-named
