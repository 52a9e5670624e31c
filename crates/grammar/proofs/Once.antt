-- A string stops at one place, with one refusal number. Assumes nothing.
use Rattle.std.proofs.Common.{◌≡◌, ℕ, ◌+◌, ◌<◌, ◌≤◌, ◌⊎◌, List, [], ◌∷◌, ◌++◌, length, take, drop, refl, inl, inr, ⊎_elim, arith}
use Rattle.std.proofs.lemmas.Bool.{cases_lt, cases_order}
use Rattle.std.proofs.lemmas.List.{append_assoc, take-append-drop, take-take}
use Rattle.grammar.specs.Regular.{Expr, Spells, Begins}
use Rattle.grammar.specs.Places.{GoesOn, begins, slashed, Why, high, unicode, other, short, Stops}

-- a prefix of what begins a string begins it
pub begins_shorter : (e : Expr) (p r : List ℕ) → Begins e (p ++ r) → Begins e p
begins_shorter e p r (t, x) = (r ++ t, rw append_assoc at x)

-- a prefix of a list with one more byte is all of it, or a prefix of the list
last_in : (p r q : List ℕ) (c : ℕ) → p ++ r ≡ q ++ c ∷ [] → (p ≡ q ++ c ∷ []) ⊎ ((s : List ℕ) × (q ≡ p ++ s))
last_in [] r q c e = inr (q, refl)
last_in (x ∷ []) r [] c e = inl (cc)
last_in (x ∷ y ∷ p) r [] c e = absurd (cc)
last_in (x ∷ p) r (y ∷ q) c e = ⊎_elim (λ h. inl (cc)) (λ h. inr (h.0, cc h.1)) (last_in p r q c (cc))

module _ (whole ours : Expr) where
  pub goes_on_shorter : (p r : List ℕ) → GoesOn whole ours (p ++ r) → GoesOn whole ours p
  goes_on_shorter p r (begins x) = begins (begins_shorter ours p r x)
  goes_on_shorter p r (slashed q e x y) =
      ⊎_elim
      (λ h. slashed q h x (begins_shorter whole p r y))
      (λ h. begins (begins_shorter ours p h.0 (rw h.1 at x)))
      (last_in p r q 92 e)

  within : (bs : List ℕ) (k n : ℕ) → Why whole bs k n → k ≤ length bs
  within bs k n (high l h) = omega arith
  within bs k n (unicode l h b) = omega arith
  within bs k n (other l h b) = omega arith
  within bs k n (short e) = omega arith

  -- a string goes on before the place where it stops
  goes_on_before : (bs : List ℕ) (j k n : ℕ) → j ≤ k → Stops whole ours bs k n → GoesOn whole ours (take j bs)
  goes_on_before bs j k n h s =
      let e : take k bs ≡ take j bs ++ drop j (take k bs) = cc (take-append-drop j (take k bs), take-take j k bs h) in
      goes_on_shorter (take j bs) (drop j (take k bs)) (rw e at s.before)

  -- and so stops at no place before it
  earlier : (bs : List ℕ) (k n l m : ℕ) → k < l → Stops whole ours bs k n → Stops whole ours bs l m → ⊥
  earlier bs k n l m h s t =
      let w = within bs l m t.why in
      s.here (omega arith) (goes_on_before bs (k + 1) l m (omega arith) t)

  same-why : (bs : List ℕ) (k n m : ℕ) → Why whole bs k n → Why whole bs k m → n ≡ m
  same-why bs k n m (high a b) (high c d) = refl
  same-why bs k n m (high a b) (unicode c d e) = absurd (omega arith)
  same-why bs k n m (high a b) (other c d e) = absurd (omega arith)
  same-why bs k n m (high a b) (short c) = absurd (omega arith)
  same-why bs k n m (unicode a b e) (high c d) = absurd (omega arith)
  same-why bs k n m (unicode a b e) (unicode c d f) = refl
  same-why bs k n m (unicode a b e) (other c d f) = absurd (f e)
  same-why bs k n m (unicode a b e) (short c) = absurd (omega arith)
  same-why bs k n m (other a b e) (high c d) = absurd (omega arith)
  same-why bs k n m (other a b e) (unicode c d f) = absurd (e f)
  same-why bs k n m (other a b e) (other c d f) = refl
  same-why bs k n m (other a b e) (short c) = refl
  same-why bs k n m (short a) (high c d) = absurd (omega arith)
  same-why bs k n m (short a) (unicode c d f) = absurd (omega arith)
  same-why bs k n m (short a) (other c d f) = refl
  same-why bs k n m (short a) (short c) = refl

  pub one-stop : (bs : List ℕ) (k n l m : ℕ) → Stops whole ours bs k n → Stops whole ours bs l m → (k ≡ l) × (n ≡ m)
  one-stop bs k n l m s t =
      ⊎_elim
      (λ e. (e, same-why bs l n m (rw e at s.why) t.why))
      (⊎_elim (λ h. absurd (earlier bs k n l m h s t)) (λ h. absurd (earlier bs l m k n h t s)))
      (cases_order k l)

  -- a string that ours spells does not stop
  pub served : (bs : List ℕ) (k n : ℕ) → Spells ours bs → Stops whole ours bs k n → ⊥
  served bs k n x s =
      let w = within bs k n s.why in
      ⊎_elim (λ h. s.here h (begins (drop (k + 1) bs, rw take-append-drop x))) (λ h. s.end (omega arith) x) (cases_lt k (length bs))
