-- What a row can be under bindings: what a map that agrees with them makes of it, and what a row that is closed is.
use Rattle.std.proofs.Common.{◌≡◌, ℕ, ◌<◌, Bool, true, false, T, List, [], ◌∷◌, length, Some, None, Option, unwrap_or, is_some, refl, sym, ap, ◌∙◌, subst, ⊎_elim, arith}
use Rattle.std.specs.List.{AllByRecursion}
use Rattle.std.proofs.ByRecursion.{All-get_or}
use Rattle.std.proofs.lemmas.Bool.{both_ways, false≢true}
use Rattle.triples.specs.declared.triple.Triple.{Triple}
use Rattle.triples.specs.declared.question.Pattern.{Pattern}
use Rattle.triples.specs.Sets.{Graph}
use Rattle.triples.specs.Questions.{Fit, Fits, Nothing, Asked, Next}
use Rattle.triples.proofs.Triples.{triple_eq}
use Rattle.walks.specs.Steps.{from_start}
use Rattle.entailment.specs.declared.goal.Position.{Position}
use Rattle.entailment.specs.declared.goal.Position.TheVariants.{Name, Blank}
use Rattle.entailment.specs.declared.goal.GoalRow.{GoalRow}
use Rattle.entailment.specs.Entailment.{put}
use Rattle.entailment.proofs.Basics.{all_both}
use Rattle.embedding.specs.Embeddings.{PutsRows}
use Rattle.embedding.specs.Bound.{Bound, lookup, asked, pattern}
use Rattle.embedding.specs.Searching.{Agrees, row_at, Prospect, Hopeful, one_free, IsClosed, Loose, Apart, Parted}
use Rattle.embedding.proofs.Meeting.{place}

pub true_of : (b : Bool) → T b → b ≡ true
true_of true t = refl
true_of false t = absurd t

pub of_true : (b : Bool) → b ≡ true → T b
of_true b e = subst T (sym e) tt

module _ (bs : Bound) (m : ℕ → ℕ) (agrees : Agrees bs m) where
  fit_bound : (k : ℕ) (o : Option ℕ) → lookup bs k ≡ o → Fit o (m k)
  fit_bound k None is = tt
  fit_bound k (Some w) is = agrees k w is

  fit_position : (x : Position) → Fit (asked bs x) (place m x)
  fit_position (Name n) = refl
  fit_position (Blank k) = fit_bound k (lookup bs k) refl

  -- the row, as m makes it, fits
  pub fits_row : (r : GoalRow) → Fits (pattern bs r) (put m r)
  fits_row r = (fit_position r.subject, fit_position r.predicate, fit_position r.object)

  pub asks_row : (r : GoalRow) → Asked (from_start (pattern bs r)) (put m r)
  asks_row r = (omega arith, fits_row r)

  closed_bound : (k v : ℕ) (o : Option ℕ) → lookup bs k ≡ o → one_free o ≡ 0 → Fit o v → v ≡ m k
  closed_bound k v None is free fit = absurd (omega arith)
  closed_bound k v (Some w) is free fit = fit ∙ sym (agrees k w is)

  closed_position : (x : Position) (v : ℕ) → one_free (asked bs x) ≡ 0 → Fit (asked bs x) v → v ≡ place m x
  closed_position (Name n) v free fit = fit
  closed_position (Blank k) v free fit = closed_bound k v (lookup bs k) refl free fit

  -- a row that is closed fits one triple
  pub closed_row : (r : GoalRow) (t : Triple) → IsClosed bs r → Fits (pattern bs r) t → t ≡ put m r
  closed_row r t closed fits =
      triple_eq t (put m r)
      (closed_position r.subject t.subject (omega arith) fits.0)
      (closed_position r.predicate t.predicate (omega arith) fits.1)
      (closed_position r.object t.object (omega arith) fits.2)

  module _ (set : Graph) where
    pub closed_held : (r : GoalRow) → IsClosed bs r → Prospect set bs r → T (set (put m r))
    closed_held r closed p = of_true (set (put m r)) (ap set (sym (closed_row r p.triple closed p.fits)) ∙ p.held)

    -- so if every row is closed, m puts every row into the set
    pub complete : (goal : List GoalRow) → AllByRecursion (IsClosed bs) goal → Hopeful set goal bs → PutsRows set goal m
    complete goal closed hope = all_both (IsClosed bs) (Prospect set bs) (λ r. T (set (put m r))) closed_held goal closed hope

    pub held_at : (goal : List GoalRow) (i : ℕ) → i < length goal → PutsRows set goal m → set (put m (row_at goal i)) ≡ true
    held_at goal i low rows = true_of (set (put m (row_at goal i))) (All-get_or (λ r. T (set (put m r))) goal i (record { subject = Name 0; predicate = Name 0; object = Name 0 }) low rows)

    -- a row that nothing fits is put into the set by no map
    pub hopeless : (goal : List GoalRow) (i : ℕ) → i < length goal → Nothing set (from_start (pattern bs (row_at goal i))) → PutsRows set goal m → ⊥
    hopeless goal i low none rows = both_ways _ (none (put m (row_at goal i)) (asks_row (row_at goal i))) (held_at goal i low rows)

-- where a walk finds nothing for a row, there is no hope
pub no_hope : (set : Graph) (goal : List GoalRow) (bs : Bound) (i : ℕ) → i < length goal → (q : Pattern) → q ≡ pattern bs (row_at goal i) → (o : Option Triple) → is_some o ≡ false → Next set (from_start q) o
    → (m : ℕ → ℕ) → Agrees bs m → PutsRows set goal m → ⊥
no_hope set goal bs i low q e None is next m a rows =
    hopeless bs m a set goal i low (subst (λ (p : Pattern). Nothing set (from_start p)) e next) rows
no_hope set goal bs i low q e (Some t) is next m a rows = absurd (false≢true (sym is))

-- the terms of the goal blanks that are bound, and else what m says
abbrev pub mixed : Bound → (ℕ → ℕ) → ℕ → ℕ
mixed bs m k = unwrap_or (lookup bs k) (m k)

pub mixed_agrees : (bs : Bound) (m : ℕ → ℕ) → Agrees bs (mixed bs m)
mixed_agrees bs m k w is = ap (λ (o : Option ℕ). unwrap_or o (m k)) is

mixed_loose : (bs : Bound) (m : ℕ → ℕ) (x : Position) → Loose bs x → place (mixed bs m) x ≡ place m x
mixed_loose bs m (Name n) loose = refl
mixed_loose bs m (Blank k) loose = ap (λ (o : Option ℕ). unwrap_or o (m k)) loose

mixed_apart : (bs : Bound) (m : ℕ → ℕ) (r : GoalRow) → Apart bs r → put (mixed bs m) r ≡ put m r
mixed_apart bs m r a =
    triple_eq (put (mixed bs m) r) (put m r) (mixed_loose bs m r.subject a.0) (mixed_loose bs m r.predicate a.1) (mixed_loose bs m r.object a.2)

-- where the rows part, a map that puts every row into the set can as well agree
pub mixed_rows : (set : Graph) (bs : Bound) (m : ℕ → ℕ) (goal : List GoalRow) → Parted goal bs → Hopeful set goal bs → PutsRows set goal m → PutsRows set goal (mixed bs m)
mixed_rows set bs m [] parted hope rows = tt
mixed_rows set bs m (r ∷ rs) parted hope rows = (
  ⊎_elim
      (λ closed. closed_held bs (mixed bs m) (mixed_agrees bs m) set r closed hope.0)
      (λ apart. subst (λ (t : Triple). T (set t)) (sym (mixed_apart bs m r apart)) rows.0)
      parted.0,
  mixed_rows set bs m rs parted.1 hope.1 rows.1,
)
