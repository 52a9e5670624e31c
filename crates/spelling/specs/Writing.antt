-- Inner devices, for the contracts of the functions that write a spelling. Assumes nothing.
use Rattle.std.specs.Prelude.{◌≡◌, ℕ, ◌+◌, ◌<◌, List, ◌∷◌, ◌++◌, length, take, drop, Ok, Err, Result, MatchResult, ◌≢◌}
use Rattle.spelling.specs.declared.canonical.TooLong.{TooLong}
use Rattle.spelling.specs.Names.{Escape, Name, canonical, longest}

-- the bytes begin with one that stands for c, itself or as an escape, and the last list follows
pub data Splits : List ℕ → ℕ → List ℕ → Type 0 where
  as_is : {c : ℕ} {r : List ℕ} → (c ≢ 92) → Splits (c ∷ r) c r
  as_escape : {l c : ℕ} {r : List ℕ} → Escape l c → Splits (92 ∷ l ∷ r) c r

-- the buffer with the word written at the offset
abbrev pub with_word : List ℕ → ℕ → List ℕ → List ℕ
with_word xs at word = take at xs ++ (word ++ drop (at + length word) xs)

-- what is written for a name: its canonical spelling, or a refusal where that is too long
abbrev pub WroteName : Name → Result (List ℕ) TooLong → Type 0
WroteName n r = MatchResult r (λ w. w ≡ canonical n) (λ _. longest < length (canonical n))

-- the outcome of a call that writes to a lent writer, with what the writer then holds
abbrev pub written : Result (Unit {0}) TooLong → List ℕ → Result (List ℕ) TooLong
written (Ok u) w = Ok w
written (Err e) w = Err e
