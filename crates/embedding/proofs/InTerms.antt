-- Over a set of triples of terms, maps to numbers and maps to terms embed the same goals.
use Rattle.std.proofs.Common.{◌≡◌, ℕ, ◌<◌, T, cond, ltb, ◌⊎◌, List, [], ◌∷◌, length, get_or, take, refl, sym, ap, subst, inl, inr, ⊎_elim, arith}
use Rattle.std.proofs.ByRecursion.{All-weaker}
use Rattle.std.proofs.lemmas.Bool.{cases_lt, cases_eq, lt-ltb, le-ltb}
use Rattle.std.proofs.lemmas.List.{get_or-take, get_or_past, length-take}
use Rattle.triples.specs.declared.triple.Triple.{Triple}
use Rattle.triples.specs.Sets.{Graph}
use Rattle.triples.proofs.Triples.{triple_eq}
use Rattle.entailment.specs.declared.goal.Position.{Position}
use Rattle.entailment.specs.declared.goal.Position.TheVariants.{Name, Blank}
use Rattle.entailment.specs.declared.goal.GoalRow.{GoalRow}
use Rattle.entailment.specs.Terms.{Term}
use Rattle.entailment.specs.Entailment.{put}
use Rattle.embedding.specs.Embeddings.{PutsRows, InRow, Absent}
use Rattle.embedding.specs.Laws.{Over, EmbedsInTerms, FoundInTerms}
use Rattle.embedding.proofs.Meeting.{place}

module _ (ts : List Term) (n : ℕ) (set : Graph) (over : Over ts n set) (m : ℕ → ℕ) where
  -- 0 for what is no term
  abbrev termed : ℕ → ℕ
  termed k = cond (ltb (m k) (length ts)) (m k) 0

  termed_same : (k : ℕ) → m k < length ts → termed k ≡ m k
  termed_same k low = ap (λ b. cond b (m k) 0) (lt-ltb (m k) (length ts) low)

  termed_below : (k : ℕ) → termed k < length ts
  termed_below k =
      ⊎_elim
      (λ low. omega (arith, termed_same k low, low))
      (λ past. omega (arith, ap (λ b. cond b (m k) 0) (le-ltb (m k) (length ts) past), over.some))
      (cases_lt (m k) (length ts))

  termed_place : (x : Position) → place m x < length ts → place termed x ≡ place m x
  termed_place (Name j) low = refl
  termed_place (Blank k) low = termed_same k low

  termed_row : (r : GoalRow) → T (set (put m r)) → T (set (put termed r))
  termed_row r held =
      let of = over.terms (put m r) held in
      subst (λ (t : Triple). T (set t))
      (sym (triple_eq (put termed r) (put m r) (termed_place r.subject of.0) (termed_place r.predicate of.1) (termed_place r.object of.2))) held

  pub termed_rows : (goal : List GoalRow) → PutsRows set goal m → PutsRows set goal termed
  termed_rows goal rows = All-weaker (λ r. T (set (put m r))) (λ r. T (set (put termed r))) termed_row goal rows

  module _ (k : ℕ) where
    at_or_not : (x : Position) → place m x < length ts → (m k < length ts) ⊎ (x ≡ Blank k → ⊥)
    at_or_not (Name j) low = inr (λ e. cc)
    at_or_not (Blank j) low =
        ⊎_elim
        (λ e. inl (omega (arith, ap m e)))
        (λ ne. inr (λ e. let d : j ≡ k = cc in ne d))
        (cases_eq j k)

    row_or_not : (r : GoalRow) → T (set (put m r)) → (m k < length ts) ⊎ (InRow k r → ⊥)
    row_or_not r held =
        let of = over.terms (put m r) held in
        ⊎_elim inl
        (λ s. ⊎_elim inl (λ p. ⊎_elim inl (λ o. inr (⊎_elim s (⊎_elim p o))) (at_or_not r.object of.2)) (at_or_not r.predicate of.1))
        (at_or_not r.subject of.0)

    -- a goal blank of the goal is given a term
    pub given_or_absent : (goal : List GoalRow) → PutsRows set goal m → (m k < length ts) ⊎ Absent k goal
    given_or_absent [] rows = inr tt
    given_or_absent (r ∷ rs) rows =
        ⊎_elim inl (λ out. ⊎_elim inl (λ rest. inr (out, rest)) (given_or_absent rs rows.1)) (row_or_not r rows.0)

pub embeds_in_terms : EmbedsInTerms
embeds_in_terms ts n set goal over = (
  λ e. (termed ts n set over e.0, termed_below ts n set over e.0, termed_rows ts n set over e.0 goal e.1.rows),
  λ e. (e.0, record { terms = λ k. omega (arith, e.1 k, over.below); rows = e.2 }),
)

pub found_in_terms : FoundInTerms
found_in_terms ts n set goal was is over found = record {
  terms = λ k. ⊎_elim
      (λ low. ⊎_elim
      (λ given. given)
      (λ absent. omega (arith, get_or-take 8 is k 0 low, found.absent k low absent, over.some))
      (given_or_absent ts n set over (λ j. get_or (take 8 is) j 0) k goal found.embeds.rows))
      (λ past. omega (arith, get_or_past (take 8 is) k 0 (omega (arith, length-take 8 is)), over.some))
      (cases_lt k 8);
  rows = found.embeds.rows;
}
