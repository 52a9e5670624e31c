-- What comes of giving a position a term.
use Rattle.std.proofs.Common.{◌≡◌, ℕ, Bool, true, false, cond, eqb, ◌⊎◌, [], ◌∷◌, Some, None, Option, refl, sym, ap, ◌∙◌, subst, inl, inr, ⊎_elim}
use Rattle.std.proofs.lemmas.Bool.{cases_Bool, eq-eqb, eqb-true, eqb-false}
use Rattle.entailment.specs.declared.goal.Position.{Position}
use Rattle.entailment.specs.declared.goal.Position.TheVariants.{Name, Blank}
use Rattle.entailment.specs.Entailment.{stands}
use Rattle.embedding.specs.Bound.{Bound, lookup, asked, bind, meet, Extends}
use Rattle.embedding.specs.Searching.{Agrees}

-- cs is bs and what gives a position the term v, where P says which goal blanks may be bound to what
pub record Meets (bs cs : Bound) (P : ℕ → ℕ → Type 0) (Q : (ℕ → ℕ) → Type 0) : Type 0 where
  pub grown : Extends bs cs
  pub keeps : (k w : ℕ) → lookup bs k ≡ Some w → lookup cs k ≡ Some w
  pub from : (k w : ℕ) → lookup cs k ≡ Some w → (lookup bs k ≡ Some w) ⊎ P k w
  pub agrees : (m : ℕ → ℕ) → Agrees bs m → Q m → Agrees cs m

-- what is bound where a position is given the term v
abbrev pub At : Position → ℕ → ℕ → ℕ → Type 0
At x v k w = (x ≡ Blank k) × (w ≡ v)

abbrev pub place : (ℕ → ℕ) → Position → ℕ
place m x = stands (λ n. n) m x

pub some_only : {A : Type 0} (x y : A) → Some x ≡ Some y → x ≡ y
some_only x y e = cc

pub none_some : {A : Type 0} {R : Type 0} (x : A) → ◌≡◌ {A = Option A} None (Some x) → R
none_some x e = cc

pub stays : (bs cs : Bound) (P : ℕ → ℕ → Type 0) (Q : (ℕ → ℕ) → Type 0) → cs ≡ bs → Meets bs cs P Q
stays bs cs P Q e =
    subst (λ (ds : Bound). Meets bs ds P Q) (sym e)
    (record { grown = ([], refl); keeps = λ k w h. h; from = λ k w h. inl h; agrees = λ m a q. a })

-- a test that passes gives bs, and else nothing
passed : (b : Bool) (bs cs : Bound) → cond b (Some bs) None ≡ Some cs → (b ≡ true) × (cs ≡ bs)
passed true bs cs e = (refl, sym (some_only bs cs e))
passed false bs cs e = none_some cs e

refused : (b : Bool) (bs : Bound) → cond b (Some bs) None ≡ None → b ≡ false
refused true bs e = none_some bs (sym e)
refused false bs e = refl

module _ (k v : ℕ) (bs : Bound) (none : lookup bs k ≡ None) where
  more : Bound
  more = (k, v) ∷ bs

  other : (j : ℕ) → eqb k j ≡ false → lookup more j ≡ lookup bs j
  unfolding more
  other j e = ap (λ b. cond b (Some v) (lookup bs j)) e

  here : (j : ℕ) → eqb k j ≡ true → lookup more j ≡ Some v
  unfolding more
  here j e = ap (λ b. cond b (Some v) (lookup bs j)) e

  pub binds : Meets bs ((k, v) ∷ bs) (At (Blank k) v) (λ m. m k ≡ v)
  unfolding more
  binds = record {
    grown = ((k, v) ∷ [], refl);
    keeps = λ j w h. ⊎_elim
        (λ e. none_some w (sym none ∙ ap (lookup bs) (eqb-true k j e) ∙ h))
        (λ e. other j e ∙ h)
        (cases_Bool (eqb k j));
    from = λ j w h. ⊎_elim
        (λ e. inr (ap Blank (eqb-true k j e), some_only w v (sym h ∙ here j e)))
        (λ e. inl (sym (other j e) ∙ h))
        (cases_Bool (eqb k j));
    agrees = λ m a q j w h. ⊎_elim
        (λ e. ap m (sym (eqb-true k j e)) ∙ q ∙ some_only v w (sym (here j e) ∙ h))
        (λ e. a j w (sym (other j e) ∙ h))
        (cases_Bool (eqb k j));
  }

abbrev Came : Position → ℕ → Bound → Bound → Type 0
Came x v bs cs = Meets bs cs (At x v) (λ m. place m x ≡ v) × (asked cs x ≡ Some v)

came_bound : (k v : ℕ) (bs cs : Bound) (o : Option ℕ) → lookup bs k ≡ o → bind k v bs o ≡ Some cs → Came (Blank k) v bs cs
came_bound k v bs cs None is e =
    let c : (k, v) ∷ bs ≡ cs = some_only ((k, v) ∷ bs) cs e in
    subst (Came (Blank k) v bs) c (binds k v bs is, ap (λ b. cond b (Some v) (lookup bs k)) (eq-eqb k k refl))
came_bound k v bs cs (Some w) is e =
    let p = passed (eqb w v) bs cs e in
    (stays bs cs (At (Blank k) v) (λ m. m k ≡ v) p.1, ap (λ (ds : Bound). lookup ds k) p.1 ∙ is ∙ ap Some (eqb-true w v p.0))

pub came : (x : Position) (v : ℕ) (bs cs : Bound) → meet x v bs ≡ Some cs → Came x v bs cs
came (Name n) v bs cs e =
    let p = passed (eqb n v) bs cs e in
    (stays bs cs (At (Name n) v) (λ m. n ≡ v) p.1, ap Some (eqb-true n v p.0))
came (Blank k) v bs cs e = came_bound k v bs cs (lookup bs k) refl e

clash_bound : (k v : ℕ) (bs : Bound) (o : Option ℕ) → lookup bs k ≡ o → bind k v bs o ≡ None → (m : ℕ → ℕ) → Agrees bs m → m k ≡ v → ⊥
clash_bound k v bs None is e m a q = none_some ((k, v) ∷ bs) (sym e)
clash_bound k v bs (Some w) is e m a q = eqb-false w v (refused (eqb w v) bs e) (sym (a k w is) ∙ q)

-- a position that cannot be given the term stands for it under no map
pub clash : (x : Position) (v : ℕ) (bs : Bound) → meet x v bs ≡ None → (m : ℕ → ℕ) → Agrees bs m → place m x ≡ v → ⊥
clash (Name n) v bs e m a q = eqb-false n v (refused (eqb n v) bs e) q
clash (Blank k) v bs e m a q = clash_bound k v bs (lookup bs k) refl e m a q
