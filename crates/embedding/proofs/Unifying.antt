-- What comes of making a row a triple: one position after another.
use Rattle.std.proofs.Common.{◌≡◌, ℕ, Bool, true, false, ◌⊎◌, [], ◌++◌, Some, None, Option, refl, sym, ap, ◌∙◌, subst, inl, inr, ⊎_elim, append_assoc, ◌-◌, length, drop, arith, length-append}
use Rattle.std.proofs.Math.Seq.{drop-append_seam}
use Rattle.triples.specs.declared.triple.Triple.{Triple}
use Rattle.entailment.specs.declared.goal.Position.{Position}
use Rattle.entailment.specs.declared.goal.Position.TheVariants.{Name, Blank}
use Rattle.entailment.specs.declared.goal.GoalRow.{GoalRow}
use Rattle.entailment.specs.Entailment.{put}
use Rattle.embedding.specs.Bound.{Bound, lookup, asked, meet, unify, and_then, Gives, Grows, Extends}
use Rattle.embedding.specs.Searching.{Agrees}
use Rattle.embedding.proofs.Meeting.{Meets, At, place, came, clash, none_some}

pub grown_then : (bs cs ds : Bound) → Extends bs cs → Extends cs ds → Extends bs ds
grown_then bs cs ds a b = (b.0 ++ a.0, b.1 ∙ ap (λ (l : Bound). b.0 ++ l) a.1 ∙ sym (append_assoc b.0 a.0 bs))

-- what bs has become is cut back to it
pub cut_back : (bs cs : Bound) → Extends bs cs → drop (length cs - length bs) cs ≡ bs
cut_back bs cs e =
    let n : length cs - length bs ≡ length e.0 = omega (arith, ap length e.1, length-append e.0 bs) in
    ap (λ (j : ℕ). drop j cs) n ∙ ap (drop (length e.0)) e.1 ∙ drop-append_seam e.0 bs

meets_then : {bs cs ds : Bound} {P R : ℕ → ℕ → Type 0} {Q S : (ℕ → ℕ) → Type 0} → Meets bs cs P Q → Meets cs ds R S → Meets bs ds (λ k w. P k w ⊎ R k w) (λ m. Q m × S m)
meets_then {bs} {cs} {ds} a b = record {
  grown = grown_then bs cs ds a.grown b.grown;
  keeps = λ k w h. b.keeps k w (a.keeps k w h);
  from = λ k w h. ⊎_elim (λ e. ⊎_elim inl (λ p. inr (inl p)) (a.from k w e)) (λ r. inr (inr r)) (b.from k w h);
  agrees = λ m g q. b.agrees m (a.agrees m g q.0) q.1;
}

-- what is bound where a row is the triple
abbrev pub Of : GoalRow → Triple → ℕ → ℕ → Type 0
Of r t k w = (At r.subject t.subject k w ⊎ At r.predicate t.predicate k w) ⊎ At r.object t.object k w

-- m makes the row the triple
abbrev pub Makes : GoalRow → Triple → (ℕ → ℕ) → Type 0
Makes r t m = ((place m r.subject ≡ t.subject) × (place m r.predicate ≡ t.predicate)) × (place m r.object ≡ t.object)

pub makes : (r : GoalRow) (t : Triple) (m : ℕ → ℕ) → put m r ≡ t → Makes r t m
makes r t m e = ((ap (λ (u : Triple). u.subject) e, ap (λ (u : Triple). u.predicate) e), ap (λ (u : Triple). u.object) e)

-- every position of the row has the triple's term
pub record Closed (bs : Bound) (r : GoalRow) (t : Triple) : Type 0 where
  pub subject : asked bs r.subject ≡ Some t.subject
  pub predicate : asked bs r.predicate ≡ Some t.predicate
  pub object : asked bs r.object ≡ Some t.object

pub kept_asked : (bs cs : Bound) → ((k w : ℕ) → lookup bs k ≡ Some w → lookup cs k ≡ Some w) → (x : Position) (v : ℕ) → asked bs x ≡ Some v → asked cs x ≡ Some v
kept_asked bs cs keeps (Name n) v h = h
kept_asked bs cs keeps (Blank k) v h = keeps k v h

module _ (r : GoalRow) (t : Triple) (bs : Bound) where
  abbrev third : Bound → Option Bound
  third ds = meet r.object t.object ds

  abbrev second : Bound → Option Bound
  second cs = and_then third (meet r.predicate t.predicate cs)

  pub no_first : (cs : Bound) → Gives (meet r.subject t.subject bs) bs cs false → Grows (unify r t bs) bs cs false
  no_first cs g = (ap (and_then second) g.0, ([], g.1))

  pub no_second : (cs ds : Bound) → Gives (meet r.subject t.subject bs) bs cs true → Gives (meet r.predicate t.predicate cs) cs ds false → Grows (unify r t bs) bs ds false
  no_second cs ds g h =
      let grown = (came r.subject t.subject bs cs g).0.grown in
      (ap (and_then second) g ∙ ap (and_then third) h.0, subst (Extends bs) (sym h.1) grown)

  pub at_last : (cs ds es : Bound) (b : Bool) → Gives (meet r.subject t.subject bs) bs cs true → Gives (meet r.predicate t.predicate cs) cs ds true → Gives (meet r.object t.object ds) ds es b → Grows (unify r t bs) bs es b
  at_last cs ds es true g h i = ap (and_then second) g ∙ ap (and_then third) h ∙ i
  at_last cs ds es false g h i =
      let grown = grown_then bs cs ds (came r.subject t.subject bs cs g).0.grown (came r.predicate t.predicate cs ds h).0.grown in
      (ap (and_then second) g ∙ ap (and_then third) h ∙ i.0, subst (Extends bs) (sym i.1) grown)

  -- the row is the triple, and its goal blanks are bound to the triple's terms
  pub record Unified (es : Bound) : Type 0 where
    pub meets : Meets bs es (Of r t) (Makes r t)
    pub closed : Closed es r t

  unified_third : (cs ds es : Bound) → meet r.subject t.subject bs ≡ Some cs → meet r.predicate t.predicate cs ≡ Some ds → meet r.object t.object ds ≡ Some es → Unified es
  unified_third cs ds es a b c =
      let x = came r.subject t.subject bs cs a in
      let y = came r.predicate t.predicate cs ds b in
      let z = came r.object t.object ds es c in
      record {
        meets = meets_then (meets_then x.0 y.0) z.0;
        closed = record {
          subject = kept_asked ds es z.0.keeps r.subject t.subject (kept_asked cs ds y.0.keeps r.subject t.subject x.1);
          predicate = kept_asked ds es z.0.keeps r.predicate t.predicate y.1;
          object = z.1;
        };
      }

  unified_second : (cs es : Bound) (o : Option Bound) → meet r.subject t.subject bs ≡ Some cs → meet r.predicate t.predicate cs ≡ o → and_then third o ≡ Some es → Unified es
  unified_second cs es None a b e = none_some es e
  unified_second cs es (Some ds) a b e = unified_third cs ds es a b e

  unified_first : (es : Bound) (o : Option Bound) → meet r.subject t.subject bs ≡ o → and_then second o ≡ Some es → Unified es
  unified_first es None a e = none_some es e
  unified_first es (Some cs) a e = unified_second cs es (meet r.predicate t.predicate cs) a refl e

  pub unified : (es : Bound) → unify r t bs ≡ Some es → Unified es
  unified es e = unified_first es (meet r.subject t.subject bs) refl e

  module _ (m : ℕ → ℕ) (agrees : Agrees bs m) (q : Makes r t m) where
    clash_second : (cs : Bound) (o : Option Bound) → meet r.subject t.subject bs ≡ Some cs → meet r.predicate t.predicate cs ≡ o → and_then third o ≡ None → ⊥
    clash_second cs None a b e = clash r.predicate t.predicate cs b m ((came r.subject t.subject bs cs a).0.agrees m agrees q.0.0) q.0.1
    clash_second cs (Some ds) a b e =
        clash r.object t.object ds e m
        ((came r.predicate t.predicate cs ds b).0.agrees m ((came r.subject t.subject bs cs a).0.agrees m agrees q.0.0) q.0.1) q.1

    clash_first : (o : Option Bound) → meet r.subject t.subject bs ≡ o → and_then second o ≡ None → ⊥
    clash_first None a e = clash r.subject t.subject bs a m agrees q.0.0
    clash_first (Some cs) a e = clash_second cs (meet r.predicate t.predicate cs) a refl e

  -- a row that cannot be the triple is it under no map
  pub clashes : unify r t bs ≡ None → (m : ℕ → ℕ) → Agrees bs m → put m r ≡ t → ⊥
  clashes e m a q = clash_first m a (makes r t m q) (meet r.subject t.subject bs) refl e
