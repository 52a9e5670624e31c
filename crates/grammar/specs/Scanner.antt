-- An inner device, for the contracts of the functions that scan a line: where a reader of one line stands, byte by byte.
-- The grammar is in Productions; proofs/Residue shows that each state is what is left of the grammar there. Assumes nothing.
use Rattle.std.specs.Prelude.{◌≡◌, ℕ, ◌+◌, ◌<◌, ◌≤◌, Bool, true, false, cond, ◌⊎◌, List, [], ◌∷◌, length, take, ◌==◌, ◌≢◌, nat_le, slice_index, slice_range}
use Rattle.grammar.specs.Regular.{Range, inside}
use Rattle.grammar.specs.Productions.{blank, letter, alnum, label_char, iri_char, string_char, escape_letter, comment_char}

-- what is to come after a term
pub data Next : Type 0 where
  verb : Next  -- the predicate
  thing : Next  -- the object
  dot : Next

-- where a label may stand
pub data Role : Type 0 where
  first : Role  -- as the subject
  last : Role  -- as the object

abbrev pub follows : Role → Next
follows first = verb
follows last = dot

pub data State : Type 0 where
  start : State
  iri : Next → State  -- inside < >
  slash : Next → State  -- after a backslash inside < >
  under : Role → State  -- after _
  colon : Role → State  -- after _:
  label : Role → State  -- after a byte of a label
  before : Next → State  -- after a term
  string : State  -- inside quotes
  escape : State  -- after a backslash inside quotes
  quoted : State  -- after the closing quote
  at : State  -- after @
  tag : State  -- after a letter of a language tag
  hyphen : State  -- after a hyphen of a language tag
  sub : State  -- after a byte that follows a hyphen
  caret : State  -- after ^
  carets : State  -- after ^^
  ended : State  -- after the dot
  remark : State  -- after #
  uchar : State  -- after the letter of \u or \U
  dead : State

abbrev pub letter_u : ℕ → State
letter_u c = cond (c == 117) uchar (cond (c == 85) uchar dead)

abbrev pub on_next : Next → ℕ → State
on_next verb c = cond (inside blank c) (before verb) (cond (c == 60) (iri thing) dead)
on_next thing c = cond (inside blank c) (before thing) (cond (c == 60) (iri dot) (cond (c == 95) (under last) (cond (c == 34) string dead)))
on_next dot c = cond (inside blank c) (before dot) (cond (c == 46) ended dead)

-- one byte up to 127
abbrev pub move : State → ℕ → State
move start c = cond (inside blank c) start (cond (c == 35) remark (cond (c == 60) (iri verb) (cond (c == 95) (under first) dead)))
move (iri n) c = cond (inside iri_char c) (iri n) (cond (c == 62) (before n) (cond (c == 92) (slash n) dead))
move (slash n) c = letter_u c
move (under n) c = cond (c == 58) (colon n) dead
move (colon n) c = cond (inside label_char c) (label n) dead
move (label n) c = cond (inside label_char c) (label n) (on_next (follows n) c)
move (before n) c = on_next n c
move string c = cond (inside string_char c) string (cond (c == 34) quoted (cond (c == 92) escape dead))
move escape c = cond (inside escape_letter c) string (letter_u c)
move quoted c = cond (c == 64) at (cond (c == 94) caret (on_next dot c))
move at c = cond (inside letter c) tag dead
move tag c = cond (inside letter c) tag (cond (c == 45) hyphen (on_next dot c))
move hyphen c = cond (inside alnum c) sub dead
move sub c = cond (inside alnum c) sub (cond (c == 45) hyphen (on_next dot c))
move caret c = cond (c == 94) carets dead
move carets c = cond (c == 60) (iri dot) dead
move ended c = cond (inside blank c) ended (cond (c == 35) remark dead)
move remark c = cond (inside comment_char c) remark dead
move uchar c = dead
move dead c = dead

-- no line has a byte above 127
abbrev pub step : State → ℕ → State
step s c = cond (nat_le c 127) (move s c) dead

abbrev pub run : State → List ℕ → State
run s [] = s
run s (c ∷ u) = run (step s c) u

-- the sorts of states
pub data Sort : Type 0 where
  inner : Sort  -- inside a term
  between : Sort  -- a term may have ended here
  done : Sort  -- the line may end here
  slashes : Sort  -- after a backslash inside < >
  escapes : Sort  -- after a backslash inside quotes
  letters : Sort  -- after the letter of \u or \U
  none : Sort

abbrev pub sort : State → Sort
sort start = done
sort (iri n) = inner
sort (slash n) = slashes
sort (under n) = inner
sort (colon n) = inner
sort (label n) = between
sort (before n) = between
sort string = inner
sort escape = escapes
sort quoted = between
sort at = inner
sort tag = between
sort hyphen = inner
sort sub = between
sort caret = inner
sort carets = inner
sort ended = done
sort remark = done
sort uchar = letters
sort dead = none

-- the part that is read can go on here
abbrev pub plain : Sort → Bool
plain inner = true
plain between = true
plain done = true
plain slashes = false
plain escapes = true
plain letters = false
plain none = false

-- a term is not at its end here
abbrev pub in_term : Sort → Bool
in_term inner = true
in_term between = false
in_term done = false
in_term slashes = true
in_term escapes = true
in_term letters = false
in_term none = false

-- the line is not at its end here
abbrev pub in_line : Sort → Bool
in_line inner = true
in_line between = true
in_line done = false
in_line slashes = true
in_line escapes = true
in_line letters = false
in_line none = false

-- from the state s, the first k bytes lead to t
abbrev pub Stands : State → List ℕ → ℕ → State → Type 0
Stands s bs k t = run s (take k bs) ≡ t

-- the state t, after k bytes from s, is after a backslash inside < > or quotes
pub data Slashed (s : State) (bs : List ℕ) (k : ℕ) : State → Type 0 where
  in_iri : (n : Next) (j : ℕ) → k ≡ j + 1 → j < length bs → Stands s bs j (iri n) → slice_index bs j ≡ 92 → Slashed s bs k (slash n)
  in_string : Slashed s bs k escape

-- at the state t the byte at k, or the end, is refused by its number; f says of which sorts t may be at the end
pub data Halted (f : Sort → Bool) (s : State) (bs : List ℕ) (k : ℕ) (t : State) : ℕ → Type 0 where
  high : k < length bs → 128 ≤ slice_index bs k → Halted f s bs k t 1
  unicode : k < length bs → Slashed s bs k t → (slice_index bs k ≡ 117) ⊎ (slice_index bs k ≡ 85) → Halted f s bs k t 2
  other : k < length bs → slice_index bs k < 128 → step t (slice_index bs k) ≡ dead → Halted f s bs k t 3
  short : k ≡ length bs → f (sort t) ≡ true → Halted f s bs k t 3

-- from the state s, bs is refused at k, by the number n
pub record Halts (f : Sort → Bool) (s : State) (bs : List ℕ) (k n : ℕ) : Type 0 where
  pub state : State
  pub stands : Stands s bs k state
  pub live : (plain (sort state) ≡ true) ⊎ Slashed s bs k state
  pub why : Halted f s bs k state n

-- from the state s, bs cannot go on at k
pub record Stuck (f : Sort → Bool) (s : State) (bs : List ℕ) (k : ℕ) : Type 0 where
  pub state : State
  pub stands : Stands s bs k state
  pub live : (plain (sort state) ≡ true) ⊎ Slashed s bs k state
  pub next : k < length bs → step state (slice_index bs k) ≡ dead
  pub end : k ≡ length bs → f (sort state) ≡ true

-- from the state s, bs cannot go on at k, right after a backslash, but for the letter of \u or \U
pub record StuckEscape (s : State) (bs : List ℕ) (k : ℕ) : Type 0 where
  pub state : State
  pub stands : Stands s bs k state
  pub slashed : Slashed s bs k state
  pub next : k < length bs → (slice_index bs k ≢ 117) → (slice_index bs k ≢ 85) → step state (slice_index bs k) ≡ dead

-- after the first k bytes a term has ended, and n is to come
pub record Ended (s : State) (bs : List ℕ) (k : ℕ) (n : Next) : Type 0 where
  pub state : State
  pub stands : Stands s bs k state
  pub over : sort state ≡ between
  pub next : k < length bs → step state (slice_index bs k) ≡ step (before n) (slice_index bs k)

-- after the first k bytes a part of a language tag has ended
abbrev pub Tagged : State → List ℕ → ℕ → Type 0
Tagged s bs k = (Stands s bs k tag × (k < length bs → inside letter (slice_index bs k) ≡ false)) ⊎ (Stands s bs k sub × (k < length bs → inside alnum (slice_index bs k) ≡ false))

-- the bytes of bs from a up to b
abbrev pub piece : List ℕ → ℕ → ℕ → List ℕ
piece bs a b = slice_range bs a b

-- the bytes of the class that stand in bs from the offset from on go up to e
pub record RunTo (rs : List Range) (bs : List ℕ) (from e : ℕ) : Type 0 where
  pub forward : from ≤ e
  pub within : e ≤ length bs
  pub all : (k : ℕ) → from ≤ k → k < e → inside rs (slice_index bs k) ≡ true
  pub past : e < length bs → inside rs (slice_index bs e) ≡ false
