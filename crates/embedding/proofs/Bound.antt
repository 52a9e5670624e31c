-- Goal blanks on a stack: which are bound, one more, and some taken off.
use Rattle.std.proofs.Common.{◌≡◌, ℕ, zero, suc, ◌-◌, ◌<◌, ◌≤◌, Bool, true, false, cond, ◌||◌, eqb, List, [], ◌∷◌, length, get_or, take, drop, set, reverse, Some, None, refl, sym, ap, ◌∙◌, ⊎_elim, arith}
use Rattle.std.specs.List.{AllByRecursion, IsDistinct, list_any}
use Rattle.std.proofs.lemmas.Bool.{cases_Bool, eq-eqb, eqb-true, eqb-false, or_cases, or_right, false≢true}
use Rattle.std.proofs.lemmas.List.{length-take-le, length-reverse, take-append-drop, take_all, get_or-set_same, get_or-set_other, drop-map}
use Rattle.std.proofs.lemmas.List.Sorted.{IsPermutation-reverse, list_any-IsPermutation}
use Rattle.std.proofs.lemmas.List.Folds.{list_any-append}
use Rattle.std.proofs.lemmas.Map.Steps.{length-le_from_distinct_below}
use Rattle.stacks.proofs.Tops.{pile-cut}
use Rattle.embedding.specs.Bound.{Bound, lowest, lookup, bound, IsSound}

or_false : (b : Bool) → (b || false) ≡ b
or_false true = refl
or_false false = refl

-- the goal blank k is on the stack
abbrev pub on : List ℕ → ℕ → Bool
on ks k = list_any (λ j. eqb j k) ks

pub on-reverse : (ks : List ℕ) (k : ℕ) → on (reverse ks) k ≡ on ks k
on-reverse ks k = sym (list_any-IsPermutation (λ j. eqb j k) ks (reverse ks) (IsPermutation-reverse ks))

pub lookup-bound : (terms ks : List ℕ) (k : ℕ) → lookup (bound terms ks) k ≡ cond (on ks k) (Some (get_or terms k 0)) None
lookup-bound terms [] k = refl
lookup-bound terms (j ∷ ks) k =
    ⊎_elim
    (λ e. ap (λ b. cond b (Some (get_or terms j 0)) (lookup (bound terms ks) k)) e
    ∙ ap (λ (i : ℕ). Some (get_or terms i 0)) (eqb-true j k e)
    ∙ sym (ap (λ b. cond (b || on ks k) (Some (get_or terms k 0)) None) e))
    (λ e. ap (λ b. cond b (Some (get_or terms j 0)) (lookup (bound terms ks) k)) e
    ∙ lookup-bound terms ks k
    ∙ sym (ap (λ b. cond (b || on ks k) (Some (get_or terms k 0)) None) e))
    (cases_Bool (eqb j k))

pub off : (terms ks : List ℕ) (k : ℕ) → lookup (bound terms ks) k ≡ None → on ks k ≡ false
off terms ks k none =
    ⊎_elim
    (λ e. let h : Some (get_or terms k 0) ≡ None = sym (ap (λ b. cond b (Some (get_or terms k 0)) None) e) ∙ sym (lookup-bound terms ks k) ∙ none in cc)
    (λ e. e)
    (cases_Bool (on ks k))

-- a term written for a goal blank that is not on the stack
elsewhere : (terms ks : List ℕ) (k v : ℕ) → on ks k ≡ false → bound (set terms k v) ks ≡ bound terms ks
elsewhere terms [] k v h = refl
elsewhere terms (j ∷ ks) k v h =
    let here : eqb j k ≡ false = ⊎_elim (λ e. absurd (false≢true (sym h ∙ ap (λ b. b || on ks k) e))) (λ e. e) (cases_Bool (eqb j k)) in
    let rest : on ks k ≡ false = sym (ap (λ b. b || on ks k) here) ∙ h in
    ap (λ (x : ℕ). (j, x) ∷ bound (set terms k v) ks) (get_or-set_other terms k j v 0 (λ e. eqb-false j k here e))
    ∙ ap (λ (bs : List (ℕ × ℕ)). (j, get_or terms j 0) ∷ bs) (elsewhere terms ks k v rest)

apart : (k : ℕ) (ks : List ℕ) → on ks k ≡ false → AllByRecursion (λ j. eqb k j ≡ false) ks
apart k [] h = tt
apart k (j ∷ ks) h =
    let here : eqb j k ≡ false = ⊎_elim (λ e. absurd (false≢true (sym h ∙ ap (λ b. b || on ks k) e))) (λ e. e) (cases_Bool (eqb j k)) in (
      ⊎_elim (λ e. absurd (eqb-false j k here (sym (eqb-true k j e)))) (λ e. e) (cases_Bool (eqb k j)),
      apart k ks (sym (ap (λ b. b || on ks k) here) ∙ h),
    )

module _ (slots terms ks : List ℕ) (k : ℕ) (s : IsSound slots ks) (low : k < 8) (none : lookup (bound terms ks) k ≡ None) where
  pub bound-more : (v : ℕ) → length terms ≡ 8 → bound (set terms k v) (k ∷ ks) ≡ (k, v) ∷ bound terms ks
  bound-more v eight =
      ap (λ (x : ℕ). (k, x) ∷ bound (set terms k v) ks) (get_or-set_same terms k v 0 (omega arith))
      ∙ ap (λ (bs : List (ℕ × ℕ)). (k, v) ∷ bs) (elsewhere terms ks k v (off terms ks k none))

  pub sound-more : IsSound slots (k ∷ ks)
  unfolding IsDistinct
  sound-more = record { room = s.room; small = (low, s.small); distinct = (apart k ks (off terms ks k none), s.distinct) }

pub below_eight : (q : ℕ) (ks : List ℕ) → AllByRecursion (λ k. k < 8) ks → list_any (eqb q) ks ≡ true → q < 8
below_eight q [] small h = absurd (false≢true h)
below_eight q (k ∷ ks) small h =
    ⊎_elim (λ e. omega (arith, eqb-true q k e, small.0)) (λ e. below_eight q ks small.1 e) (or_cases (eqb q k) (list_any (eqb q) ks) h)

-- so there is room for one that is not on the stack
pub room-for : (slots terms ks : List ℕ) (k : ℕ) → IsSound slots ks → k < 8 → lookup (bound terms ks) k ≡ None → length ks < length slots
room-for slots terms ks k s low none =
    let t = sound-more slots terms ks k s low none in
    let few : length (k ∷ ks) ≤ 8 = length-le_from_distinct_below (k ∷ ks) 8 t.distinct (λ q h. below_eight q (k ∷ ks) t.small h) in
    omega (arith, few, s.room)

pub sound_cut : (slots : List ℕ) (n : ℕ) (ks : List ℕ) → IsSound slots ks → IsSound slots (drop n ks)
unfolding IsDistinct
sound_cut slots zero ks s = s
sound_cut slots (suc n) [] s = s
sound_cut slots (suc n) (k ∷ ks) s = sound_cut slots n ks (record { room = s.room; small = s.small.1; distinct = s.distinct.1 })

pub length-bound : (terms ks : List ℕ) → length (bound terms ks) ≡ length ks
length-bound terms [] = refl
length-bound terms (k ∷ ks) = ap suc (length-bound terms ks)

pub bound-cut : (terms : List ℕ) (n : ℕ) (ks : List ℕ) → bound terms (drop (length ks - n) ks) ≡ drop (length (bound terms ks) - n) (bound terms ks)
bound-cut terms n ks =
    sym (drop-map (λ k. (k, get_or terms k 0)) (length ks - n) ks)
    ∙ ap (λ (j : ℕ). drop (j - n) (bound terms ks)) (sym (length-bound terms ks))

pub sound_none : (slots : List ℕ) → 8 ≤ length slots → IsSound slots []
unfolding IsDistinct
sound_none slots room = record { room = room; small = tt; distinct = tt }

-- what a search of a stack's slots tells of a goal blank
pub looked : (terms xs ys : List ℕ) (n k : ℕ) (b : Bool) → ys ≡ take n xs → b ≡ on ys k → lookup (bound terms (reverse (take n xs))) k ≡ cond b (Some (get_or terms k 0)) None
looked terms xs ys n k b e h =
    lookup-bound terms (reverse (take n xs)) k
    ∙ ap (λ c. cond c (Some (get_or terms k 0)) None) (on-reverse (take n xs) k ∙ ap (λ (l : List ℕ). on l k) (sym e) ∙ sym h)

-- a goal blank that is not in the slots past the lowest m
pub looked_since : (terms xs ys : List ℕ) (n m k : ℕ) → n ≤ length xs → m ≤ length (bound terms (reverse (take n xs))) → ys ≡ drop m (take n xs) → on ys k ≡ false
    → lookup (bound terms (reverse (take n xs))) k ≡ lookup (lowest m (bound terms (reverse (take n xs)))) k
looked_since terms xs ys n m k le low e h =
    let zs : List ℕ = take n xs in
    let all : length zs ≡ n = length-take-le n xs le in
    let more : m ≤ length zs = omega (arith, low, length-bound terms (reverse zs), length-reverse zs) in
    let parts : on zs k ≡ (on (take m zs) k || on (drop m zs) k) = ap (λ (l : List ℕ). on l k) (sym (take-append-drop m zs)) ∙ list_any-append (λ j. eqb j k) (take m zs) (drop m zs) in
    let off : on (drop m zs) k ≡ false = ap (λ (l : List ℕ). on l k) (sym e) ∙ h in
    let same : on zs k ≡ on (take m zs) k = parts ∙ ap (λ b. on (take m zs) k || b) off ∙ or_false (on (take m zs) k) in
    let cut : drop (length (reverse zs) - m) (reverse zs) ≡ reverse (take m zs) =
    ap (λ (l : List ℕ). drop (length (reverse l) - m) (reverse l)) (sym (take_all (length zs) zs (omega arith))) ∙ sym (pile-cut zs m (length zs) more (omega arith)) in
    lookup-bound terms (reverse zs) k
    ∙ ap (λ b. cond b (Some (get_or terms k 0)) None) (on-reverse zs k ∙ same ∙ sym (on-reverse (take m zs) k))
    ∙ sym (lookup-bound terms (reverse (take m zs)) k)
    ∙ ap (λ (l : List ℕ). lookup (bound terms l) k) (sym cut)
    ∙ ap (λ (bs : Bound). lookup bs k) (bound-cut terms m (reverse zs))

pub low_if_on : (slots ks : List ℕ) (k : ℕ) → IsSound slots ks → on ks k ≡ true → k < 8
low_if_on slots ks k s h = below_eight k ks s.small (flipped ks h)
  where
    flipped : (js : List ℕ) → on js k ≡ true → list_any (eqb k) js ≡ true
    flipped [] e = e
    flipped (j ∷ js) e =
        ⊎_elim
        (λ d. ap (λ b. b || list_any (eqb k) js) (eq-eqb k j (sym (eqb-true j k d))))
        (λ d. or_right (eqb k j) (list_any (eqb k) js) (flipped js d))
        (or_cases (eqb j k) (on js k) e)
