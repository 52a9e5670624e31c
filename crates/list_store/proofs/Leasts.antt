-- The least of the records that answer a question.
use Rattle.std.proofs.Common.{◌≡◌, ℕ, zero, suc, ◌≤◌, true, false, Bool, cond, List, [], ◌∷◌, Some, None, Option, option_map, filter, map, slice_get, length, sym, refl, ap, ◌∙◌, subst, ⊎_elim, arith}
use Rattle.std.proofs.lemmas.Bool.{false≢true, cases_Bool, both_ways}
use Rattle.std.proofs.lemmas.List.{length-map}
use Rattle.std.proofs.lemmas.Option.{slice_get-map}
use Rattle.std.proofs.lemmas.Map.Keys.{ge_from_not_lt}
use Rattle.std.proofs.iter.runs.Made.{at-is, each_of}
use Rattle.std.specs.Iterator.Runs.{Run, AnyItem, NoKeyBeyond, CallKeepsClosure}
use Rattle.std.specs.Ordering.{is_lt, nat_cmp}
use Rattle.std.specs.Fn.{CalledAt}
use denote.Param.Members.{Mut}
use denote.Ref.{Bor}
use Rattle.std.specs.Option.{MatchOption, IsSomeAnd, IfSome}
use Rattle.triples.specs.declared.triple.Triple.{Triple}
use Rattle.triples.specs.declared.question.Question.{Question}
use Rattle.triples.specs.Codes.{code_of}
use Rattle.triples.specs.Sets.{adding, among}
use Rattle.triples.specs.Questions.{Asked, Next}
use Rattle.triples.proofs.Graphs.{adding-at, adding_on, adding_cases}
use Rattle.triples.proofs.Matching.{answers, answers_decides}

-- an item of the list is in its set
item_among : (xs : List Triple) (k : ℕ) (t : Triple) → IsSomeAnd (slice_get xs k) (λ x. x ≡ t) → among xs t ≡ true
item_among [] k t h = absurd h
item_among (x ∷ xs) zero t e = ap (adding (among xs) x) (sym e) ∙ adding-at (among xs) x
item_among (x ∷ xs) (suc k) t h = adding_on (among xs) x t (item_among xs k t h)

-- what holds of each item holds of each triple of the set
each_among : (P : Triple → Type 0) (xs : List Triple) → ((k : ℕ) → IfSome (slice_get xs k) P) → (t : Triple) → among xs t ≡ true → P t
each_among P [] h t i = absurd (false≢true i)
each_among P (x ∷ xs) h t i =
    ⊎_elim (λ e. subst P (sym e) (h 0)) (λ j. each_among P xs (λ k. h (suc k)) t j) (adding_cases (among xs) x t i)

module _ (p : Triple → Bool) where
  among-filter : (xs : List Triple) (t : Triple) → among (filter p xs) t ≡ true → (among xs t ≡ true) × (p t ≡ true)
  among-filter [] t i = absurd (false≢true i)
  among-filter (x ∷ xs) t i =
      ⊎_elim
      (λ y.
      ⊎_elim
      (λ e. (ap (adding (among xs) x) e ∙ adding-at (among xs) x, ap p e ∙ y))
      (λ j. let h = among-filter xs t j in (adding_on (among xs) x t h.0, h.1))
      (adding_cases (among (filter p xs)) x t (ap (λ (b : Bool). among (cond b (x ∷ filter p xs) (filter p xs)) t) (sym y) ∙ i)))
      (λ n.
      let h = among-filter xs t (ap (λ (b : Bool). among (cond b (x ∷ filter p xs) (filter p xs)) t) (sym n) ∙ i) in
      (adding_on (among xs) x t h.0, h.1))
      (cases_Bool (p x))

  among_filtered : (xs : List Triple) (t : Triple) → among xs t ≡ true → p t ≡ true → among (filter p xs) t ≡ true
  among_filtered [] t i h = absurd (false≢true i)
  among_filtered (x ∷ xs) t i h =
      ⊎_elim
      (λ e.
      ap (λ (b : Bool). among (cond b (x ∷ filter p xs) (filter p xs)) t) (ap p (sym e) ∙ h)
      ∙ ap (adding (among (filter p xs)) x) e
      ∙ adding-at (among (filter p xs)) x)
      (λ j.
      let rest = among_filtered xs t j h in
      ⊎_elim
      (λ y. ap (λ (b : Bool). among (cond b (x ∷ filter p xs) (filter p xs)) t) y ∙ adding_on (among (filter p xs)) x t rest)
      (λ n. ap (λ (b : Bool). among (cond b (x ∷ filter p xs) (filter p xs)) t) n ∙ rest)
      (cases_Bool (p x)))
      (adding_cases (among xs) x t i)

none_among : (xs : List Triple) → length xs ≡ 0 → (t : Triple) → among xs t ≡ false
none_among [] e t = refl
none_among (x ∷ xs) e t = absurd (omega arith)

-- an item of least code of the records that answer
pub next_of_least : (ts : List Triple) (q : Question) (xs : List Triple) (r : Option Triple) → xs ≡ filter (answers q) ts → MatchOption r (length xs ≡ 0) (λ m. ((k : ℕ) × IsSomeAnd (slice_get xs k) (λ x. x ≡ m)) × ((k : ℕ) → IfSome (slice_get xs k) (λ x. code_of m ≤ code_of x))) → Next (among ts) q r
next_of_least ts q xs r e h =
    let chosen : (t : Triple) → Asked q t → among ts t ≡ true → among xs t ≡ true = λ t a i.
    ap (λ (ys : List Triple). among ys t) e ∙ among_filtered (answers q) ts t i ((answers_decides q t).1 a) in
    least chosen r h
  where
    least : ((t : Triple) → Asked q t → among ts t ≡ true → among xs t ≡ true) → (o : Option Triple) → MatchOption o (length xs ≡ 0) (λ m. ((k : ℕ) × IsSomeAnd (slice_get xs k) (λ x. x ≡ m)) × ((k : ℕ) → IfSome (slice_get xs k) (λ x. code_of m ≤ code_of x))) → Next (among ts) q o
    least chosen None h = λ t a.
        ⊎_elim (λ i. absurd (both_ways (among xs t) (none_among xs h t) (chosen t a i))) (λ n. n) (cases_Bool (among ts t))
    least chosen (Some m) h =
        let in' = among-filter (answers q) ts m (ap (λ (ys : List Triple). among ys m) (sym e) ∙ item_among xs h.0.0 m h.0.1) in
        record {
          held = in'.0;
          asked = (answers_decides q m).0 in'.1;
          least = λ t a l.
              ⊎_elim
              (λ i. let m≤t : code_of m ≤ code_of t = each_among (λ u. code_of m ≤ code_of u) xs h.1 t (chosen t a i) in absurd (omega arith))
              (λ n. n)
              (cases_Bool (among ts t));
        }

-- a filter by what each item stands for
pub map-filter : {A B : Type 0} (v : A → B) (p : B → Bool) (xs : List A) → map v (filter (λ x. p (v x)) xs) ≡ filter p (map v xs)
map-filter v p [] = refl
map-filter {A} {B} v p (x ∷ xs) = go _ _ (map-filter v p xs) (p (v x))
  where
    go : (ys : List A) (zs : List B) → map v ys ≡ zs → (b : Bool) → map v (cond b (x ∷ ys) ys) ≡ cond b (v x ∷ zs) zs
    go ys zs e true = ap (λ ws. v x ∷ ws) e
    go ys zs e false = e

is_mapped : {A B : Type 0} (v : A → B) (m : A) (o : Option A) → IsSomeAnd o (λ x. x ≡ m) → IsSomeAnd (option_map v o) (λ t. t ≡ v m)
is_mapped v m None h = absurd h
is_mapped v m (Some x) e = ap v e

if_mapped : {A B : Type 0} (v : A → B) (P : B → Type 0) (o : Option A) → IfSome o (λ x. P (v x)) → IfSome (option_map v o) P
if_mapped v P None h = tt
if_mapped v P (Some x) h = h

-- the item that min_by_key picks from a run by the codes of the triples that the items stand for
module _ {S A F : Type 0} {steps : S → Option A → S → Type 0} (v : A → Triple) (p : Run steps) (g : Mut F (Bor A × Unit {0}) ℕ) (f : F) (keeps : CallKeepsClosure g f) (codes : (x : A) (j : ℕ) → CalledAt g f x j f → j ≡ code_of (v x)) where
  pub picked : (r : Option A) → MatchOption r (p.len ≡ 0) (λ m. AnyItem p (λ x. x ≡ m) × NoKeyBeyond p g f is_lt nat_cmp m) → MatchOption (option_map v r) (length (map v p.items) ≡ 0) (λ m. ((k : ℕ) × IsSomeAnd (slice_get (map v p.items) k) (λ t. t ≡ m)) × ((k : ℕ) → IfSome (slice_get (map v p.items) k) (λ t. code_of m ≤ code_of t)))
  picked None h = length-map p.items v ∙ sym p.long ∙ h
  picked (Some m) h =
      let n = h.1 keeps in
      let P : Triple → Type 0 = λ t. code_of (v m) ≤ code_of t in (
        (
          h.0.0,
          subst (λ (o : Option Triple). IsSomeAnd o (λ t. t ≡ v m)) (sym (slice_get-map v p.items h.0.0))
              (is_mapped v m (slice_get p.items h.0.0) (subst (λ (o : Option A). IsSomeAnd o (λ x. x ≡ m)) (at-is p h.0.0) h.0.2)),
        ),
        λ k. subst (λ (o : Option Triple). IfSome o P) (sym (slice_get-map v p.items k))
            (if_mapped v P (slice_get p.items k) (each_of p (λ x. P (v x)) (λ j. lowest (p.at j) n.0 (n.2 j) n.1) k)),
      )
    where
      lowest : (o : Option A) (c : ℕ) → IfSome o (λ x. (j : ℕ) × CalledAt g f x j f × (is_lt (nat_cmp j c) ≡ false)) → CalledAt g f m c f → IfSome o (λ x. code_of (v m) ≤ code_of (v x))
      lowest None c h y = tt
      lowest (Some x) c h y =
          let le : c ≤ h.0 = ge_from_not_lt h.0 c h.2 in
          let at = codes m c y in
          let ax = codes x h.0 h.1 in
          omega arith
