-- What the calls on spellings answer, and two laws of spellings. Assumes nothing.
use Rattle.std.specs.Prelude.{◌≡◌, ℕ, ◌<◌, ◌≤◌, List, ◌++◌, length, drop, Some, None, Ok, Err, Option, Result}
use Rattle.grammar.specs.Readings.{Kind}
use Rattle.spelling.specs.declared.canonical.TooLong.{TooLong}
use Rattle.spelling.specs.Names.{Name, Denotes, canonical, longest}

-- the refusal number
abbrev pub number : TooLong → ℕ
number t = 4

-- a token of the kind with these bytes is served: the length of its name's spelling, which the buffer has at its start and
-- is as before behind; or none where it denotes no name, and the buffer is as before
abbrev pub Served : Kind → List ℕ → List ℕ → List ℕ → Option ℕ → Type 0
Served k t before after (Some n) = (m : Name) × Denotes k t m × (n ≡ length (canonical m)) × (n ≤ longest) × (after ≡ canonical m ++ drop n before)
Served k t before after None = ((m : Name) → Denotes k t m → ⊥) × (after ≡ before)

-- the token's name has too long a spelling
abbrev pub Over : Kind → List ℕ → Type 0
Over k t = (m : Name) × Denotes k t m × (longest < length (canonical m))

-- the answer on a token, over a buffer before and after; a refusal leaves the buffer
abbrev pub Spelling : Kind → List ℕ → List ℕ → List ℕ → Result (Option ℕ) TooLong → Type 0
Spelling k t before after (Ok x) = Served k t before after x
Spelling k t before after (Err e) = Over k t × (after ≡ before)

-- reading the canonical spelling of a token gives the same name, and so the same spelling, back
abbrev pub ReadsBack : Kind → List ℕ → Type 0
ReadsBack k t = (n : Name) → Denotes k t n → Denotes k (canonical n) n

-- a token has one spelling with another exactly when the two denote one name, and it denotes one at most
abbrev pub OneSpelling : Kind → List ℕ → Type 0
OneSpelling k t = (l : Kind) (u : List ℕ) (n m : Name) → Denotes k t n → Denotes l u m → (canonical n ≡ canonical m → n ≡ m) × (n ≡ m → canonical n ≡ canonical m) × (t ≡ u → n ≡ m)
