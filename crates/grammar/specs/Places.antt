-- The first place where a string cannot go on, and the refusal number there. Stated for any two regular grammars:
-- `whole` has the escapes \u and \U, and `ours` is the part of it that is read. Assumes nothing.
use Rattle.std.specs.Prelude.{◌≡◌, ℕ, ◌+◌, ◌<◌, ◌≤◌, ◌⊎◌, List, [], ◌∷◌, ◌++◌, length, take, slice_index}
use Rattle.grammar.specs.Regular.{Expr, Spells, Begins}

-- A string that begins with q can go on after q: q begins a string of ours. A backslash is judged at the byte
-- after it, so where the whole grammar has one, the string can go on after it too.
pub data GoesOn (whole ours : Expr) (q : List ℕ) : Type 0 where
  begins : Begins ours q → GoesOn whole ours q
  slashed : (p : List ℕ) → q ≡ p ++ 92 ∷ [] → Begins ours p → Begins whole q → GoesOn whole ours q

-- why bs cannot go on at its offset k, by refusal number
pub data Why (whole : Expr) (bs : List ℕ) (k : ℕ) : ℕ → Type 0 where
  -- a byte above 127
  high : k < length bs → 128 ≤ slice_index bs k → Why whole bs k 1
  -- the letter of \u or \U, with which the whole grammar goes on
  unicode : k < length bs → (slice_index bs k ≡ 117) ⊎ (slice_index bs k ≡ 85) → Begins whole (take (k + 1) bs) → Why whole bs k 2
  -- any other byte
  other : k < length bs → slice_index bs k < 128 → (Begins whole (take (k + 1) bs) → ⊥) → Why whole bs k 3
  -- the end
  short : k ≡ length bs → Why whole bs k 3

-- the first place where bs cannot go on is its offset k, with the refusal number n
pub record Stops (whole ours : Expr) (bs : List ℕ) (k n : ℕ) : Type 0 where
  pub before : GoesOn whole ours (take k bs)
  pub here : k < length bs → GoesOn whole ours (take (k + 1) bs) → ⊥
  pub end : k ≡ length bs → Spells ours bs → ⊥
  pub why : Why whole bs k n
