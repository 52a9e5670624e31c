-- Forms matched with the triples of a list: a test of every way to match them, and what it gives.
use Rattle.std.proofs.Common.{◌≡◌, ℕ, Bool, true, false, cond, ◌&&◌, T, List, [], ◌∷◌, Some, None, Option, IfSome, IsSomeAnd, ◌==◌, eqb, eqb→eq, option_and_then, refl, sym, ap, subst}
use Rattle.std.specs.Option.{option_map_or}
use Rattle.std.specs.List.{ContainsAt as Has, AllByRecursion, list_all, list_any}
use Rattle.std.proofs.ByRecursion.{all-has}
use Rattle.std.proofs.lemmas.Bool.{eq-eqb, eqb-true, cond_both}
use Rattle.triples.specs.declared.triple.Triple.{Triple}
use Rattle.triples.proofs.Triples.{triple_eq}
use Rattle.entailment.specs.Rows.{Slot, the, letter, Form, at, reading}
use Rattle.entailment.proofs.Basics.{and_left, and_right, all-by_test, has_by_test}

-- the terms of the letters that are known
abbrev pub Known : Type 0
Known = ℕ → Option ℕ

abbrev pub none_known : Known
none_known k = None

abbrev known_term : Known → Slot → Option ℕ
known_term e (the n) = Some n
known_term e (letter k) = e k

-- whether a slot is known to be the term; d where it is not known
abbrev is_term : Bool → Known → Slot → ℕ → Bool
is_term d e s v = option_map_or (λ w. w == v) (known_term e s) d

abbrev pub is_triple : Known → Form → Triple → Bool
is_triple e f t = is_term false e f.predicate t.predicate && (is_term false e f.subject t.subject && is_term false e f.object t.object)

abbrev with_slot : Slot → ℕ → Known → Known
with_slot (the n) v e = e
with_slot (letter k) v e = λ j. cond (j == k) (Some v) (e j)

-- what is known once a slot, or a form, is matched; `None` where it does not fit what was known
abbrev match_slot : Slot → ℕ → Known → Option Known
match_slot s v e = cond (is_term true e s v) (Some (with_slot s v e)) None

abbrev pub match_form : Form → Triple → Known → Option Known
match_form f t e = option_and_then (match_slot f.object t.object) (option_and_then (match_slot f.subject t.subject) (match_slot f.predicate t.predicate e))

-- whether, in each way to match the forms with triples of the list, what is then known passes p
abbrev pub each_way : (Known → Bool) → List Triple → List Form → Known → Bool
each_way p l [] e = p e
each_way p l (f ∷ fs) e = list_all (λ t. option_map_or (each_way p l fs) (match_form f t e) true) l

pub all_at : {X : Type 0} (f : X → Bool) (xs : List X) (x : X) → T (list_all f xs) → Has xs x → T (f x)
all_at f xs x h m = all-has (λ y. T (f y)) xs x (all-by_test (λ y. T (f y)) f (λ y k. k) xs h) m

module _ (σ : ℕ → ℕ) where
  -- the letters that are known are as σ says
  abbrev pub IsRight : Known → Type 0
  IsRight e = (k : ℕ) → IfSome (e k) (λ v. σ k ≡ v)

  known_term_right : (e : Known) → IsRight e → (s : Slot) → IfSome (known_term e s) (λ v. at σ s ≡ v)
  known_term_right e r (the n) = refl
  known_term_right e r (letter k) = r k

  with_slot_right : (s : Slot) (e : Known) → IsRight e → IsRight (with_slot s (at σ s) e)
  with_slot_right (the n) e r = r
  with_slot_right (letter k) e r = λ j. cond_both (eqb j k) (Some (σ k)) (e j) (λ o. IfSome o (λ v. σ j ≡ v)) (λ h. ap σ (eqb-true j k h)) (λ h. r j)

  fits : (o : Option ℕ) (v : ℕ) → IfSome o (λ w. v ≡ w) → option_map_or (λ w. w == v) o true ≡ true
  fits None v h = refl
  fits (Some w) v h = eq-eqb w v (sym h)

  match_slot_right : (s : Slot) (e : Known) → IsRight e → IsSomeAnd (match_slot s (at σ s) e) IsRight
  match_slot_right s e r =
      subst (λ b. IsSomeAnd (cond b (Some (with_slot s (at σ s) e)) None) IsRight) (sym (fits (known_term e s) (at σ s) (known_term_right e r s))) (with_slot_right s e r)

  match_slot_next : (s : Slot) (o : Option Known) → IsSomeAnd o IsRight → IsSomeAnd (option_and_then (match_slot s (at σ s)) o) IsRight
  match_slot_next s None h = h
  match_slot_next s (Some e) h = match_slot_right s e h

  match_form_right : (f : Form) (e : Known) → IsRight e → IsSomeAnd (match_form f (reading σ f) e) IsRight
  match_form_right f e r = match_slot_next f.object _ (match_slot_next f.subject _ (match_slot_right f.predicate e r))

  -- σ is one of the ways, where it reads each form as a triple of the list
  pub one_way : (p : Known → Bool) (l : List Triple) (fs : List Form) (e : Known) → IsRight e → T (each_way p l fs e) → AllByRecursion (λ f. Has l (reading σ f)) fs → (e : Known) × IsRight e × T (p e)
  one_way p l [] e r h m = (e, r, h)
  one_way p l (f ∷ fs) e r h m =
      go (match_form f (reading σ f) e) (match_form_right f e r) (all_at (λ t. option_map_or (each_way p l fs) (match_form f t e) true) l (reading σ f) h m.0) (λ e r h. one_way p l fs e r h m.1)
    where
      go : (o : Option Known) → IsSomeAnd o IsRight → T (option_map_or (each_way p l fs) o true) → ((e : Known) → IsRight e → T (each_way p l fs e) → (e : Known) × IsRight e × T (p e)) → (e : Known) × IsRight e × T (p e)
      go None r h later = absurd r
      go (Some e) r h later = later e r h

  is_term_right : (o : Option ℕ) (v w : ℕ) → IfSome o (λ u. v ≡ u) → T (option_map_or (λ u. u == w) o false) → w ≡ v
  is_term_right None v w h t = absurd t
  is_term_right (Some u) v w h t = let e = eqb→eq u w t in cc

  is_triple_right : (e : Known) → IsRight e → (f : Form) (t : Triple) → T (is_triple e f t) → t ≡ reading σ f
  is_triple_right e r f t h =
      let rest = and_right (is_term false e f.predicate t.predicate) _ h in
      triple_eq t (reading σ f)
      (is_term_right (known_term e f.subject) _ _ (known_term_right e r f.subject) (and_left (is_term false e f.subject t.subject) _ rest))
      (is_term_right (known_term e f.predicate) _ _ (known_term_right e r f.predicate) (and_left (is_term false e f.predicate t.predicate) _ h))
      (is_term_right (known_term e f.object) _ _ (known_term_right e r f.object) (and_right (is_term false e f.subject t.subject) _ rest))

  -- a form whose letters are known is in a list only as σ reads it
  pub has_reading : (e : Known) → IsRight e → (f : Form) (l : List Triple) → T (list_any (is_triple e f) l) → Has l (reading σ f)
  has_reading e r f l h = has_by_test (is_triple e f) (reading σ f) (is_triple_right e r f) l h
