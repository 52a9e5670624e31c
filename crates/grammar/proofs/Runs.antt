-- What is left of the grammar along a run of the states. Assumes nothing.
use Rattle.std.proofs.Common.{◌≡◌, ℕ, ◌<◌, ◌≤◌, Bool, true, false, not, ◌||◌, leb, List, [], ◌∷◌, ◌++◌, take, refl, ⊎_elim, arith}
use Rattle.std.proofs.lemmas.Bool.{cases_lt, cond-false, cond_both, or_cases, not-true}
use Rattle.std.proofs.lemmas.Bool.Decides.{nat_tests}
use Rattle.grammar.specs.Regular.{Expr, never, Spells}
use Rattle.grammar.specs.Productions.{Extent, full, part}
use Rattle.grammar.specs.Scanner.{State, dead, move, step, run, Sort, inner, between, done, slashes, escapes, letters, none, sort, Stands}
use Rattle.grammar.proofs.Classes.{low_ranges, low-inside}
use Rattle.grammar.proofs.Derivatives.{der_is}
use Rattle.grammar.proofs.LL1.{firsts}
use Rattle.grammar.proofs.Pieces.{begins_in}
use Rattle.grammar.proofs.Residue.{left, lettered, skipped, row_at}
use Rattle.grammar.proofs.States.{every, where_passed}

-- the states that a line can go through
abbrev pub lives : Sort → Bool
lives inner = true
lives between = true
lives done = true
lives slashes = true
lives escapes = true
lives letters = false
lives none = false

not_lettered : (s : State) → lives (sort s) ≡ true → lettered (sort s) ≡ false
not_lettered s h = not-true _ (where_passed (λ t. lives (sort t)) (λ t. not (lettered (sort t))) refl s h)

pub step-high : (s : State) (c : ℕ) → 128 ≤ c → step s c ≡ dead
step-high s c h = grind (arith, nat_tests)

skip_out : (x : Extent) (s : State) (e : Expr) (u : List ℕ) → Spells (skipped x s e) u → Spells e u
skip_out part s e u h = h
skip_out full s e u h = cond_both (lettered (sort s)) never e (λ d. Spells d u → Spells e u) (λ _ k. absurd k) (λ _ k. k) h

skip_in : (x : Extent) (s : State) (e : Expr) (u : List ℕ) → (x ≡ full → lettered (sort s) ≡ false) → Spells e u → Spells (skipped x s e) u
skip_in part s e u o h = h
skip_in full s e u o h = rw (cond-false (lettered (sort s)) never e (o refl)) h

left_low_firsts : (x : Extent) (s : State) → low_ranges (firsts (left x s) []) ≡ true
left_low_firsts full s = every (λ t. low_ranges (firsts (left full t) [])) refl s
left_low_firsts part s = every (λ t. low_ranges (firsts (left part t) [])) refl s

pub left-low : (x : Extent) (s : State) (c : ℕ) (u : List ℕ) → Spells (left x s) (c ∷ u) → c < 128
left-low x s c u h = low-inside (firsts (left x s) []) c (left_low_firsts x s) (begins_in (left x s) (c ∷ u) h)

-- what is left after a byte, is left before it with the byte in front
step_out : (x : Extent) (s : State) (c : ℕ) (u : List ℕ) → Spells (left x (step s c)) u → Spells (left x s) (c ∷ u)
step_out x s c u h =
    ⊎_elim
    (λ l. (der_is c (left x s) u).0 (skip_out x (step s c) _ u (rw (row_at x s c l) h)))
    (λ l. absurd (rw (step-high s c l) at h))
    (cases_lt c 128)

pub step_in : (x : Extent) (s : State) (c : ℕ) (u : List ℕ) → (x ≡ full → lettered (sort (step s c)) ≡ false) → Spells (left x s) (c ∷ u) → Spells (left x (step s c)) u
step_in x s c u o h = rw (row_at x s c (left-low x s c u h)) at (skip_in x (step s c) _ u o ((der_is c (left x s) u).1 h))

-- where nothing is left after a byte, no string has it
pub no-part : (s : State) (c : ℕ) (u : List ℕ) → left part (step s c) ≡ never → Spells (left part s) (c ∷ u) → ⊥
no-part s c u d h = rw d at (step_in part s c u (λ e. cc) h)

pub run_out : (x : Extent) (s : State) (p u : List ℕ) → Spells (left x (run s p)) u → Spells (left x s) (p ++ u)
run_out x s [] u h = h
run_out x s (c ∷ p) u h = step_out x s c (p ++ u) (run_out x (step s c) p u h)

pub run-part : (s : State) (p u : List ℕ) → Spells (left part s) (p ++ u) → Spells (left part (run s p)) u
run-part s [] u h = h
run-part s (c ∷ p) u h = run-part (step s c) p u (step_in part s c (p ++ u) (λ e. cc) h)

live-step : (s : State) (c : ℕ) → lives (sort (step s c)) ≡ true → lives (sort s) ≡ true
live-step s c h =
    cond_both (leb c 127) (move s c) dead (λ t. lives (sort t) ≡ true → lives (sort s) ≡ true)
    (λ _ k. ⊎_elim (λ x. x) (λ x. cc) (or_cases _ _ (every (λ t. lives (sort t) || not (lives (sort (move t c)))) refl s)))
    (λ _ k. cc)
    h

live-run : (s : State) (p : List ℕ) → lives (sort (run s p)) ≡ true → lives (sort s) ≡ true
live-run s [] h = h
live-run s (c ∷ p) h = live-step s c (live-run (step s c) p h)

pub run-full : (s : State) (p u : List ℕ) → lives (sort (run s p)) ≡ true → Spells (left full s) (p ++ u) → Spells (left full (run s p)) u
run-full s [] u l h = h
run-full s (c ∷ p) u l h =
    run-full (step s c) p u l (step_in full s c (p ++ u) (λ _. not_lettered (step s c) (live-run (step s c) p l)) h)

pub run-append : (s : State) (p q : List ℕ) → run s (p ++ q) ≡ run (run s p) q
run-append s [] q = refl
run-append s (c ∷ p) q = run-append (step s c) p q

-- what is left at the state that the first k bytes lead to
module _ (s : State) (bs : List ℕ) (k : ℕ) (t : State) (st : Stands s bs k t) (u : List ℕ) where
  pub left_out : (x : Extent) → Spells (left x t) u → Spells (left x s) (take k bs ++ u)
  left_out x h = run_out x s (take k bs) u (rw st h)

  pub left-part : Spells (left part s) (take k bs ++ u) → Spells (left part t) u
  left-part h = rw st at (run-part s (take k bs) u h)

  pub left-full : lives (sort t) ≡ true → Spells (left full s) (take k bs ++ u) → Spells (left full t) u
  left-full l h = rw st at (run-full s (take k bs) u (rw st l) h)
